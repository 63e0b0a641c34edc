-- One more node each time, by ascending names.
use Rattle.std.proofs.Common.{◌≡◌, ◌≤◌, ◌∙◌, length, Some, sym, ap, subst, arith}
use Rattle.std.specs.Prelude.{slice_get}
use Rattle.std.specs.Option.{option_copied}
use Rattle.std.specs.List.{AllZip}
use Rattle.mtn_base.specs.Names.{name_cmp}
use Rattle.mtn_base.specs.Lists.{rises}
use Rattle.mtn_marking.specs.Marking.{Marks}
use Rattle.mtn_marking.specs.Parts.{basis_of, IsMarkedNode}
use Rattle.mtn_marking.proofs.Knowing.{names_rise}
use Rattle.mtn_marking.proofs.Zips.{got_at, zip_next, zip_all, same_names}
use Rattle.mtn_marking.proofs.mark.mark_all.Goals as goal
use Rattle.mtn_marking.proofs.mark.mark_all.Goals.{After-loop-place}

pub loop-place-preserved : goal.loop-place-preserved
loop-place-preserved c =
    let got : slice_get c.args.new.now c.loop-place.place ≡ Some c.unwrap-entry.result.now = sym c.at_place.ensures ∙ ap option_copied c.unwrap-entry.ensures in
    let at = got_at c.args.new.now c.loop-place.place c.unwrap-entry.result.now got in
    zip_next (IsMarkedNode (basis_of c.args.against.now)) c.args.new.now c.loop-place.items.items c.push.new.self.items c.loop-place.place c.unwrap-entry.result.now _
    at.0 at.1 c.loop-place.invariant c.in_ok-mark_entry.ensures c.in_ok-push.ensures.items

all : (c : After-loop-place) → AllZip (IsMarkedNode (basis_of c.args.against.now)) c.args.new.now c.loop-place.items.items
all c =
    let h : length c.args.new.now ≤ c.loop-place.place = omega (arith, c.loop-place-test.false, c.len-count.ensures.count) in
    zip_all (IsMarkedNode (basis_of c.args.against.now)) c.args.new.now c.loop-place.items.items c.loop-place.place h c.loop-place.invariant

pub from_rising-requires : goal.from_rising-requires
from_rising-requires c = ap (rises name_cmp) (same_names (basis_of c.args.against.now) c.args.new.now c.loop-place.items.items (all c)) ∙ names_rise c.args.new.now c.len-count.ensures.sane

pub returns : goal.returns
returns c =
    let h : length c.args.new.now ≤ c.loop-place.place = omega (arith, c.loop-place-test.false, c.len-count.ensures.count) in
    subst (λ (ms : Marks). AllZip (IsMarkedNode (basis_of c.args.against.now)) c.args.new.now ms) (sym c.from_rising.ensures)
    (zip_all (IsMarkedNode (basis_of c.args.against.now)) c.args.new.now c.loop-place.items.items c.loop-place.place h c.loop-place.invariant)
