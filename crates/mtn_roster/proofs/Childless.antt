-- A file has no children.
use Rattle.std.specs.List.{filter}
use Rattle.std.specs.Cmp.{first_so}
use Rattle.std.proofs.Common.{◌≡◌, ℕ, ◌<◌, true, false, List, [], length, get_or, Some, refl, sym, ◌∙◌, ap}
use Rattle.std.proofs.lemmas.List.Elements.{All-get_or}
use Rattle.mtn_roster.specs.declared.entry.Entry.{Entry}
use Rattle.mtn_roster.specs.declared.entry.Slot.{Slot}
use Rattle.mtn_roster.specs.declared.entry.Slot.TheVariants.{Root, Below}
use Rattle.mtn_roster.specs.Tree.{Tree, entry_of, is_dir, IsSane}
use Rattle.mtn_base.specs.Names.{same_name}
use Rattle.mtn_roster.specs.Index.{IsIndex, slot_in}
use Rattle.mtn_roster.specs.Walk.{is_below}
use Rattle.mtn_base.proofs.Members.{taken}
use Rattle.mtn_base.proofs.Tests.{same_name-is}
use Rattle.mtn_roster.proofs.Ordered.{distinct_of}
use Rattle.mtn_roster.proofs.BySlot.{slot_is}
use Rattle.mtn_roster.proofs.Running.{filter_none}

module _ (t : Tree) (sane : IsSane t) (e : Entry) (there : entry_of t e.name ≡ Some e) (file : is_dir e ≡ false) where
  not_under : (x : Entry) → entry_of t x.name ≡ Some x → (s : Slot) → x.slot ≡ s → is_below e.name s ≡ false
  not_under x has Root is = refl
  not_under x has (Below p a) is =
      elim (same_name p e.name) as (λ b. same_name p e.name ≡ b → b ≡ false) [
        | true ↦ λ q. absurd (
            let d = sane.sane.parents x.name p x a has is in
            let one : entry_of t p ≡ Some e = ap (entry_of t) (same_name-is p e.name q) ∙ there in
            let held = d.1 in
            let dir = d.2 in
            let same : d.0 ≡ e = cc in
            cc)
        | false ↦ λ q. refl
      ] refl

  pub childless : (ks : List ℕ) → IsIndex t ks → filter (λ k. is_below e.name (slot_in t k)) ks ≡ []
  childless ks index = filter_none (λ k. is_below e.name (slot_in t k)) ks (λ i l.
      let k = get_or ks i 0 in
      let low : k < length t = All-get_or (λ k. k < length t) ks i 0 l index.within in
      let x = taken t k low in
      not_under x.0 (distinct_of t (first_so _ _ sane.ordered) x.0 x.2) (slot_in t k) (sym (slot_is t k x.0 x.1)))
