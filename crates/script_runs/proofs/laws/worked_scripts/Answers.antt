-- By computing.
use Rattle.std.proofs.Common.{refl}
use Rattle.std.specs.Fmt.{digits}
use Rattle.text_lines.specs.Spelling.{number_part}
use Rattle.mmv_layout.specs.Contents.{find_section, section_of}
use Rattle.mmv_layout.specs.Sizes.{name_width, name_room}
use Rattle.mmv_layout.specs.EntryFields.{name_start, name_text}
use Rattle.mmv_layout.specs.Entries.{metric_of}
use Rattle.mmv_layout.specs.Fields.{number64, number32, byte_at, text_at}
use Rattle.mmv_layout.specs.Form.{slot_at, slots_of, texts_of}
use Rattle.mmv_layout.specs.Rows.{list_below, help_of, instances_of, indom_row, serial_of, metric_row, instance_of, content_of, value_row, indoms_of, metrics_of, values_of, strings_of, layout_of}
use Rattle.script_runs.specs.Worked.{AddsOne, ReadsAround, ReadsBehind, IsBusy, ShowsBusy, IsBounced, IsSpent, IsTooLarge, ShowsOther, ShowsMissed, ShowsText, AreRefused}
use Rattle.script_runs.proofs.laws.worked_scripts.Goals as goal

adds_one : AddsOne
unfolding number64 number32 byte_at text_at name_width name_room name_start name_text find_section section_of metric_of slot_at slots_of texts_of list_below help_of instances_of indom_row serial_of metric_row instance_of content_of value_row indoms_of metrics_of values_of strings_of layout_of digits number_part
adds_one = refl

reads_around : ReadsAround
unfolding number64 number32 digits number_part
reads_around = refl

reads_behind : ReadsBehind
unfolding number64 number32 digits number_part
reads_behind = refl

is_busy : IsBusy
unfolding number64 number32 digits number_part
is_busy = refl

shows_busy : ShowsBusy
unfolding number64 number32 byte_at text_at name_width name_room name_start name_text find_section section_of metric_of slot_at slots_of texts_of list_below help_of instances_of indom_row serial_of metric_row instance_of content_of value_row indoms_of metrics_of values_of strings_of layout_of digits number_part
shows_busy = refl

is_bounced : IsBounced
unfolding number64 number32 digits number_part
is_bounced = refl

is_spent : IsSpent
unfolding number64 number32 digits number_part
is_spent = refl

is_too_large : IsTooLarge
unfolding number64 number32 digits number_part
is_too_large = refl

shows_other : ShowsOther
unfolding number64 number32 byte_at text_at name_width name_room name_start name_text find_section section_of metric_of slot_at slots_of texts_of list_below help_of instances_of indom_row serial_of metric_row instance_of content_of value_row indoms_of metrics_of values_of strings_of layout_of digits number_part
shows_other = refl

shows_missed : ShowsMissed
unfolding number64 number32 byte_at text_at name_width name_room name_start name_text find_section section_of metric_of slot_at slots_of texts_of list_below help_of instances_of indom_row serial_of metric_row instance_of content_of value_row indoms_of metrics_of values_of strings_of layout_of digits number_part
shows_missed = refl

shows_text : ShowsText
unfolding number64 number32 byte_at text_at name_width name_room name_start name_text find_section section_of metric_of slot_at slots_of texts_of list_below help_of instances_of indom_row serial_of metric_row instance_of content_of value_row indoms_of metrics_of values_of strings_of layout_of digits number_part
shows_text = refl

are_refused : AreRefused
unfolding number64 number32 byte_at text_at name_width find_section section_of metric_of slot_at slots_of texts_of list_below serial_of instance_of digits number_part
are_refused = (refl, refl, refl, refl, refl)

pub returns : goal.returns
returns c = record {
  adds = adds_one;
  around = reads_around;
  behind = reads_behind;
  busy = is_busy;
  busy_shown = shows_busy;
  bounced = is_bounced;
  spent = is_spent;
  too_large = is_too_large;
  other = shows_other;
  missed = shows_missed;
  text = shows_text;
  refused = are_refused;
}
