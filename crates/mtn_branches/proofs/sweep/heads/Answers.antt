use Rattle.std.specs.Prelude.{Contains}
use Rattle.std.proofs.Common.{ℕ, List, subst}
use Rattle.mtn_base.specs.declared.id.Id.{Id}
use Rattle.mtn_ancestry.specs.Ancestors.{IsProperAncestor}
use Rattle.mtn_ancestry.specs.Log.{parents_of}
use Rattle.mtn_ancestry.specs.Sets.{IsAscendingListOf}
use Rattle.mtn_branches.specs.Branches.{IsHead, IsMember}
use Rattle.mtn_branches.specs.Graphs.{IsIdAt, IsProperlyAbove, StandsAt}
use Rattle.mtn_branches.specs.Images.{IsImage}
use Rattle.mtn_branches.proofs.HeadLemmas.{heads_are, put_list, within}
use Rattle.mtn_branches.proofs.sweep.heads.Goals as goal

pub erase_ancestors-requires : goal.erase_ancestors-requires
erase_ancestors-requires c = rw c.deref-2.ensures.value (within c.args.graph.now _ c.in_ok-places.places.items c.in_ok-places.ensures)

pub returns : goal.returns
returns c =
    let log = c.args.graph.now in
    let member = IsMember (Contains c.args.certs.now) c.args.branch.now in
    put_list (IsHead (IsProperlyAbove log) member) _ _ c.put_in_order.ensures
    (heads_are log c.len-log.ensures.log member c.in_ok-ids.ids.items c.in_ok-places.places.items c.in_ok-found.found c.in_ok-heads.heads.items
    c.in_ok-ids.ensures.exact c.requires
    (subst (λ (l : List Id). IsImage (StandsAt log) l c.in_ok-places.places.items) c.deref.ensures.value c.in_ok-places.ensures)
    (subst (λ (l : List ℕ). IsAscendingListOf (λ x. Contains l x × ((r : ℕ) → Contains l r → ¬ IsProperAncestor (parents_of log) x r)) c.in_ok-found.found) c.deref-2.ensures.value c.in_ok-found.ensures)
    (subst (λ (l : List ℕ). IsImage (IsIdAt log) l c.in_ok-heads.heads.items) c.as_slice.ensures.value c.in_ok-heads.ensures))
