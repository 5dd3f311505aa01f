-- How long records are.
use Rattle.std.proofs.Common.{◌≡◌, ℕ, ℤ, ◌+◌, ◌-◌, ◌≤◌, List, ◌++◌, length, arith, length-append}
use Rattle.std.proofs.Math.ListN.{length-replicate}
use Rattle.pcp_model.specs.Words.{word, signed_word, length-word, length-signed_word, text_field, zeros}
use Rattle.pcp_model.specs.Frame.{frame}
use Rattle.pcp_model.specs.LabelFields.{LabelFields, FitsLabel}
use Rattle.pcp_model.specs.Labels.{label, label_head}

-- a frame adds its two length words
pub length-frame : (payload : List ℕ) → length (frame payload) ≡ length payload + 8
unfolding frame
length-frame payload =
    omega (arith, length-append (word (length payload + 8)) (payload ++ word (length payload + 8)), length-append payload (word (length payload + 8)), length-word (length payload + 8))

length-zeros : (n : ℕ) → length (zeros n) ≡ n
length-zeros n = length-replicate n 0

-- a padded text of at most the width takes the width
pub length-padded : (width : ℕ) (text : List ℕ) → length text ≤ width → length (text_field width text) ≡ width
length-padded width text h = omega (arith, length-append text (zeros (width - length text)), length-zeros (width - length text))

-- the words of a label take 20 bytes
pub length-label_head : (l : LabelFields) (number : ℤ) → length (label_head l number) ≡ 20
length-label_head l number =
    omega (
      arith,
      length-append (word 1342514690) (word l.pid ++ (word l.start.sec ++ (word l.start.usec ++ signed_word number))),
      length-append (word l.pid) (word l.start.sec ++ (word l.start.usec ++ signed_word number)),
      length-append (word l.start.sec) (word l.start.usec ++ signed_word number),
      length-append (word l.start.usec) (signed_word number),
      length-word 1342514690,
      length-word l.pid,
      length-word l.start.sec,
      length-word l.start.usec,
      length-signed_word number,
    )

-- a label takes 132 bytes
pub length-label : (l : LabelFields) (number : ℤ) → FitsLabel l → length (label l number) ≡ 132
unfolding label
length-label l number fits =
    omega (
      arith,
      length-frame (label_head l number ++ (text_field 64 l.host ++ text_field 40 l.zone)),
      length-append (label_head l number) (text_field 64 l.host ++ text_field 40 l.zone),
      length-append (text_field 64 l.host) (text_field 40 l.zone),
      length-label_head l number,
      length-padded 64 l.host (let h : length l.host ≤ 64 = omega (arith, fits.host) in h),
      length-padded 40 l.zone (let h : length l.zone ≤ 40 = omega (arith, fits.zone) in h),
    )
