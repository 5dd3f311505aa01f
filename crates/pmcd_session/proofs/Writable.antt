-- Every reply can be written.
use Rattle.std.proofs.Common.{ℕ, ℤ, negsuc, Bool, true, false, List, [], ◌∷◌, Option, Some, None, Result, Ok, Err, sym, subst, cond, map}
use Rattle.std.specs.Prelude.{IfSome, find, option_map, slice_get}
use Rattle.std.specs.Ordering.{int_eq}
use Rattle.pcp_base.specs.declared.desc.Desc.{Desc}
use Rattle.pdu_codec.specs.declared.pdu.Pdu.{Pdu}
use Rattle.pdu_codec.specs.declared.pdu.Pdu.TheVariants as pdus
use Rattle.pdu_codec.specs.Spelling.{IsWritable}
use Rattle.pmns_core.specs.Pairs.{Pair, pmid_of, least_name}
use Rattle.pmns_core.specs.Below.{below, children_of}
use Rattle.fetch_answers.specs.Asks.{desc_asked, instances_asked}
use Rattle.fetch_answers.specs.Readings.{RegionReading}
use Rattle.fetch_answers.proofs.SetsFit.{sets_fit}
use Rattle.pmcd_session.specs.declared.standing.Standing.{Standing}
use Rattle.pmcd_session.specs.Contexts.{may_set, with_profile, profile_or_all}
use Rattle.pmcd_session.specs.Replies.{protocol_error, desc_reply, instance_reply, one_instance, ids_reply, names_reply, some_names, name_reply, unless_missing, reply_over, names_shown, missing_among, all_of, no_metric, no_name}
use Rattle.pmcd_session.specs.Serving.{Deed, DoesIf, FetchesIf, Meets, ReadsBy, Refuses, Serves, Sets, IsSilent, Tells, may_fetch}

desc_writable : (told : Result Desc ℤ) → IsWritable (desc_reply told)
desc_writable (Ok desc) = tt
desc_writable (Err status) = tt

one_writable : (indom : ℕ) (found : Option (ℤ × List ℕ)) → IsWritable (one_instance indom found)
one_writable indom None = tt
one_writable indom (Some pair) = tt

chosen_writable : (indom : ℕ) (instance : ℤ) (pairs : List (ℤ × List ℕ)) (b : Bool)
    → IsWritable (cond b (pdus.Instance indom pairs) (one_instance indom (find (λ (pair : ℤ × List ℕ). int_eq pair.0 instance) pairs)))
chosen_writable indom instance pairs true = tt
chosen_writable indom instance pairs false = one_writable indom (find (λ (pair : ℤ × List ℕ). int_eq pair.0 instance) pairs)

instance_writable : (indom : ℕ) (instance : ℤ) (told : Result (List (ℤ × List ℕ)) ℤ) → IsWritable (instance_reply indom instance told)
instance_writable indom instance (Ok pairs) = chosen_writable indom instance pairs (int_eq instance (negsuc 0))
instance_writable indom instance (Err status) = tt

ids_writable : (found : Option (List ℕ)) → IsWritable (ids_reply found)
ids_writable None = tt
ids_writable (Some pmids) = tt

names_writable : (status : ℤ) (found : Option (List (List ℕ))) → IsWritable (names_reply status found)
names_writable status None = tt
names_writable status (Some names) = tt

name_writable : (names : List Pair) (request : Pdu) → IsWritable (name_reply names request)
name_writable names (pdus.PmnsNames status asked) = ids_writable (all_of (pmid_of names) asked)
name_writable names (pdus.PmnsIds status asked) = names_writable no_metric (all_of (least_name names) asked)
name_writable names (pdus.PmnsChild name) = names_writable no_name (option_map (λ (parts : List (List ℕ × Bool)). map (λ part. part.0) parts) (children_of names name))
name_writable names (pdus.PmnsTraverse name) = names_writable no_name (some_names (below names name))
name_writable names (pdus.Error code) = tt
name_writable names (pdus.Result answer) = tt
name_writable names (pdus.Profile context global parts) = tt
name_writable names (pdus.Fetch context sec usec pmids) = tt
name_writable names (pdus.DescReq pmid) = tt
name_writable names (pdus.Desc desc) = tt
name_writable names (pdus.InstanceReq indom instance) = tt
name_writable names (pdus.Instance indom pairs) = tt
name_writable names pdus.Creds = tt

unless_writable : (clusters : List ℕ) (reply : Pdu) → IsWritable reply → IsWritable (unless_missing clusters reply)
unless_writable [] reply w = w
unless_writable (cluster ∷ clusters) reply w = tt

over_writable : (request : Pdu) (regions : List RegionReading) → IsWritable (reply_over request regions)
over_writable (pdus.DescReq pmid) regions = desc_writable (desc_asked regions pmid)
over_writable (pdus.InstanceReq indom instance) regions = instance_writable indom instance (instances_asked regions indom)
over_writable (pdus.PmnsNames status asked) regions = unless_writable (missing_among regions) (name_reply (names_shown regions) (pdus.PmnsNames status asked)) (name_writable (names_shown regions) (pdus.PmnsNames status asked))
over_writable (pdus.PmnsIds status asked) regions = unless_writable (missing_among regions) (name_reply (names_shown regions) (pdus.PmnsIds status asked)) (name_writable (names_shown regions) (pdus.PmnsIds status asked))
over_writable (pdus.PmnsChild name) regions = unless_writable (missing_among regions) (name_reply (names_shown regions) (pdus.PmnsChild name)) (name_writable (names_shown regions) (pdus.PmnsChild name))
over_writable (pdus.PmnsTraverse name) regions = unless_writable (missing_among regions) (name_reply (names_shown regions) (pdus.PmnsTraverse name)) (name_writable (names_shown regions) (pdus.PmnsTraverse name))
over_writable (pdus.Error code) regions = unless_writable (missing_among regions) protocol_error tt
over_writable (pdus.Result answer) regions = unless_writable (missing_among regions) protocol_error tt
over_writable (pdus.Profile context global parts) regions = unless_writable (missing_among regions) protocol_error tt
over_writable (pdus.Fetch context sec usec pmids) regions = unless_writable (missing_among regions) protocol_error tt
over_writable (pdus.Desc desc) regions = unless_writable (missing_among regions) protocol_error tt
over_writable (pdus.Instance indom pairs) regions = unless_writable (missing_among regions) protocol_error tt
over_writable pdus.Creds regions = unless_writable (missing_among regions) protocol_error tt

-- ---- of what is done

told_writable : {A : Type 0} (reads : ReadsBy A) (s : Standing A) (request : Pdu) (d : Deed A) → Tells reads s request d → IfSome d.reply IsWritable
told_writable reads s request d told = subst (λ (o : Option Pdu). IfSome o IsWritable) (sym told.reply) (over_writable request told.regions)

refused_writable : {A : Type 0} (s : Standing A) (d : Deed A) → Refuses s d → IfSome d.reply IsWritable
refused_writable {A = A} s d is = subst (λ (e : Deed A). IfSome e.reply IsWritable) (sym is) tt

silent_writable : {A : Type 0} (after : Standing A) (d : Deed A) → IsSilent after d → IfSome d.reply IsWritable
silent_writable {A = A} after d is = subst (λ (e : Deed A). IfSome e.reply IsWritable) (sym is) tt

set_writable : {A : Type 0} (b : Bool) (s after : Standing A) (d : Deed A) → Sets b s after d → IfSome d.reply IsWritable
set_writable true s after d done = silent_writable after d done
set_writable false s after d done = refused_writable s d done

fetch_writable : {A : Type 0} (reads : ReadsBy A) (b : Bool) (s : Standing A) (context : ℕ) (pmids : List ℕ) (d : Deed A) → FetchesIf reads b s context pmids d → IfSome d.reply IsWritable
fetch_writable reads true s context pmids d done =
    subst (λ (o : Option Pdu). IfSome o IsWritable) (sym done.reply) (sets_fit done.regions (profile_or_all (slice_get s.contexts context)) pmids)
fetch_writable reads false s context pmids d done = refused_writable s d done

served_writable : {A : Type 0} (reads : ReadsBy A) (s : Standing A) (request : Pdu) (d : Deed A) → Serves reads s request d → IfSome d.reply IsWritable
served_writable reads s pdus.Creds d done = refused_writable s d done
served_writable reads s (pdus.Profile context global parts) d done = set_writable (may_set context parts) s (record s { contexts = with_profile s.contexts context global parts }) d done
served_writable reads s (pdus.Fetch context sec usec pmids) d done = fetch_writable reads (may_fetch context pmids) s context pmids d done
served_writable reads s (pdus.DescReq pmid) d done = told_writable reads s (pdus.DescReq pmid) d done
served_writable reads s (pdus.InstanceReq indom instance) d done = told_writable reads s (pdus.InstanceReq indom instance) d done
served_writable reads s (pdus.PmnsIds status pmids) d done = told_writable reads s (pdus.PmnsIds status pmids) d done
served_writable reads s (pdus.PmnsNames status names) d done = told_writable reads s (pdus.PmnsNames status names) d done
served_writable reads s (pdus.PmnsChild name) d done = told_writable reads s (pdus.PmnsChild name) d done
served_writable reads s (pdus.PmnsTraverse name) d done = told_writable reads s (pdus.PmnsTraverse name) d done
served_writable reads s (pdus.Error code) d done = refused_writable s d done
served_writable reads s (pdus.Result answer) d done = refused_writable s d done
served_writable reads s (pdus.Desc desc) d done = refused_writable s d done
served_writable reads s (pdus.Instance indom pairs) d done = refused_writable s d done

met_writable : {A : Type 0} (s : Standing A) (request : Pdu) (d : Deed A) → Meets s request d → IfSome d.reply IsWritable
met_writable s pdus.Creds d done = silent_writable (record s { is_met = true }) d done
met_writable s (pdus.Profile context global parts) d done = refused_writable s d done
met_writable s (pdus.Fetch context sec usec pmids) d done = refused_writable s d done
met_writable s (pdus.DescReq pmid) d done = refused_writable s d done
met_writable s (pdus.InstanceReq indom instance) d done = refused_writable s d done
met_writable s (pdus.PmnsIds status pmids) d done = refused_writable s d done
met_writable s (pdus.PmnsNames status names) d done = refused_writable s d done
met_writable s (pdus.PmnsChild name) d done = refused_writable s d done
met_writable s (pdus.PmnsTraverse name) d done = refused_writable s d done
met_writable s (pdus.Error code) d done = refused_writable s d done
met_writable s (pdus.Result answer) d done = refused_writable s d done
met_writable s (pdus.Desc desc) d done = refused_writable s d done
met_writable s (pdus.Instance indom pairs) d done = refused_writable s d done

-- whatever is done, its reply can be written
pub reply_writable : {A : Type 0} (reads : ReadsBy A) (s : Standing A) (met : Bool) (asked : Option Pdu) (d : Deed A) → DoesIf reads s met asked d → IfSome d.reply IsWritable
reply_writable reads s met None d done = refused_writable s d done
reply_writable reads s false (Some request) d done = met_writable s request d done
reply_writable reads s true (Some request) d done = served_writable reads s request d done
