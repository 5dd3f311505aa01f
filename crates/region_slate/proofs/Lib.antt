pub mod SlateLaws
