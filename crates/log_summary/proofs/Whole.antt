-- The text of the table of all items is the summary of the scan.
use Rattle.std.proofs.Common.{◌≡◌, ℕ, List, ap, ◌∙◌}
use Rattle.pcp_base.specs.Time.{Moment}
use Rattle.pcp_model.specs.Disk.{Files}
use Rattle.archive_loading.specs.Loaded.{Loaded, IsOver}
use Rattle.archive_reader.proofs.Readable.{standing_is_read}
use Rattle.log_summary.specs.Lines.{table_text}
use Rattle.log_summary.specs.Summaries.{IsTableOf, IsSummary}
use Rattle.log_summary.specs.Tables.{Rows}

pub summary_is : (files : Files) (r : Loaded) (from to : Moment) (table : Rows) (text : List ℕ) → IsOver files r → IsTableOf files r.volumes r.records from to table → text ≡ table_text r.records table → IsSummary files from to text
summary_is files r from to table text over t is = record {
  loaded = r;
  over = over;
  items = t.items;
  all = t.all;
  read = standing_is_read files r t.items over t.all;
  is = is ∙ ap (table_text r.records) t.is;
}
