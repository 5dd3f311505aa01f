use Rattle.archive_meta.proofs.record_writing.put_description.Goals as goal

pub returns-clause-range : goal.returns-clause-range
returns-clause-range c = let r = c.in_ok-put_desc.ensures.range in record {
  pmid = r.0;
  code = r.1;
  indom = r.2;
  semantics = r.3;
  units = r.4;
  few = c.requires.few;
  texts = c.in_ok-put_names.ensures.range;
}
