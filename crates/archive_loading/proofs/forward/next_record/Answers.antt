use Rattle.std.proofs.Common.{ℕ, ◌+◌, List, length, sym, ap, ◌∙◌, subst, arith}
use Rattle.pcp_base.specs.declared.file.FileId.TheVariants.{Volume}
use Rattle.pcp_model.specs.Disk.{contents_of}
use Rattle.archive_loading.specs.Standing.{ItemStands, NoItemStands, WasTaken, IsTaken, FitsIn}
use Rattle.archive_loading.proofs.Frames.{item_there, no_item_there, whole_not_torn}
use Rattle.archive_loading.proofs.forward.next_record.Goals as goal

pub returns-in-Wrong-clause-found : goal.returns-in-Wrong-clause-found
returns-in-Wrong-clause-found g c = λ tells.
    let bytes : List ℕ = contents_of (g.D.Disk.held c.args.disk.now) (Volume c.args.number) in
    let none = subst (IsTaken bytes c.args.at c.take_frame.new.frame.items) c.in-Wrong.is (c.in_ok-take_frame.ensures.taken tells) in
    (λ next x s. none.0 s.payload next s.stands, none.1)

pub returns-in-Some-clause-found : goal.returns-in-Some-clause-found
returns-in-Some-clause-found g c = λ tells.
    let bytes : List ℕ = contents_of (g.D.Disk.held c.args.disk.now) (Volume c.args.number) in
    let frame : List ℕ = c.take_frame.new.frame.items in
    let taken : WasTaken bytes c.args.at frame = subst (IsTaken bytes c.args.at frame) c.in-Frame.is (c.in_ok-take_frame.ensures.taken tells) in
    item_there bytes frame c.args.at (c.args.at + c.len.result) c.in-Some.item taken (ap (λ n. c.args.at + n) (c.len.ensures ∙ sym c.deref.ensures.len ∙ ap length c.deref.ensures.value))
    (subst (λ l. ItemStands l 0 (length l) c.in-Some.item) c.deref.ensures.value c.in-Some.ensures)

pub returns-in-None-clause-found : goal.returns-in-None-clause-found
returns-in-None-clause-found g c = λ tells.
    let bytes : List ℕ = contents_of (g.D.Disk.held c.args.disk.now) (Volume c.args.number) in
    let frame : List ℕ = c.take_frame.new.frame.items in
    let taken : WasTaken bytes c.args.at frame = subst (IsTaken bytes c.args.at frame) c.in-Frame.is (c.in_ok-take_frame.ensures.taken tells) in
    (no_item_there bytes frame c.args.at taken (subst (λ l. NoItemStands l 0) c.deref.ensures.value c.in-None.ensures), whole_not_torn bytes frame c.args.at taken)

pub returns-in-Some-clause-within : goal.returns-in-Some-clause-within
returns-in-Some-clause-within g c =
    let fits = subst (FitsIn c.args.end c.args.at c.take_frame.new.frame.items) c.in-Frame.is c.in_ok-take_frame.ensures.within in
    (omega (arith, c.len.ensures, fits.0.size.0), omega (arith, c.len.ensures, fits.1))
