-- Nodes that stand in both trees.
use Rattle.std.specs.Prelude.{◌||◌, not, is_none, slice_get}
use Rattle.std.proofs.Common.{◌≡◌, ◌≢◌, ℕ, Bool, true, false, Option, Some, None, refl, sym, ◌∙◌, ap, subst, ⊎_elim}
use Rattle.std.specs.Cmp.{first_so, second_so}
use Rattle.std.proofs.lemmas.Option.{slice_get-get_or}
use Rattle.mtn_base.specs.Names.{same_id}
use Rattle.mtn_base.specs.declared.id.Id.{Id}
use Rattle.mtn_base.specs.declared.name.NodeName.{NodeName}
use Rattle.mtn_roster.specs.declared.entry.Entry.{Entry}
use Rattle.mtn_roster.specs.Tree.{Tree, IsSane, entry_of}
use Rattle.mtn_base.proofs.Finding.{Split}
use Rattle.mtn_base.proofs.Members.{taken, place_of}
use Rattle.mtn_base.proofs.Tests.{told, both_true, same_id-is, same_id-self}
use Rattle.mtn_roster.proofs.Forest.{same_some, name_of, split_of}
use Rattle.mtn_roster.proofs.Ordered.{forest_of}
use Rattle.mtn_roster.proofs.Leading.{get_within}
use Rattle.mtn_changeset_laws.specs.Joining.{is_old}
use Rattle.mtn_changeset_laws.specs.Laws.{CommonAreKnown}
use Rattle.mtn_join.specs.Pairing.{is_common_known}

third : (a b c : Bool) → (a || b || c) ≡ true → a ≡ false → b ≡ false → c ≡ true
third true b c h e f = absurd cc
third false true c h e f = absurd cc
third false false c h e f = h

none_holds : (a b c : Bool) → (a || b || c) ≡ false → (a ≡ false) × (b ≡ false) × (c ≡ false)
none_holds true b c h = absurd cc
none_holds false true c h = absurd cc
none_holds false false c h = (refl, refl, h)

is_there : {A : Type 0} (o : Option A) → is_none o ≡ false → (a : A) × (o ≡ Some a)
is_there None h = absurd cc
is_there (Some a) h = (a, refl)

untrue : (b : Bool) → not b ≡ false → b ≡ true
untrue true h = refl
untrue false h = absurd cc

module _ (l r : Tree) (new : Id) (al ar : Id → Bool) (sane : IsSane l) where
  pub all_known : ((k : ℕ) (e : Entry) → slice_get l k ≡ Some e → is_common_known r new al ar e ≡ true) → CommonAreKnown l r new al ar
  all_known passes n x y h k strange =
      let q = place_of l x (split_of l n x h) in
      let at : slice_get l q.0 ≡ Some x = slice_get-get_or l q.0 x q.1 ∙ ap Some (q.2 x) in
      let name : x.name ≡ n = name_of l n x h in
      let old : not (is_old new x) ≡ false = ⊎_elim
      (λ a. ap not a)
      (λ b. absurd (strange (sym (ap (λ (m : NodeName). m.birth) name) ∙ same_id-is x.name.birth new (untrue _ b))))
      (told (is_old new x)) in
      let there : is_none (entry_of r x.name) ≡ false = ap is_none (ap (entry_of r) name ∙ k) in
      let both = third _ _ _ (passes q.0 x at) old there in
      let birth : x.name.birth ≡ n.birth = ap (λ (m : NodeName). m.birth) name in
      (ap al (sym birth) ∙ first_so _ _ both, ap ar (sym birth) ∙ second_so (al x.name.birth) _ both)

  pub none_unknown : (k : ℕ) (e : Entry) → slice_get l k ≡ Some e → is_common_known r new al ar e ≡ false → CommonAreKnown l r new al ar → ⊥
  none_unknown k e at fails known =
      let low = get_within l k e at in
      let t = taken l k low in
      let here : entry_of l e.name ≡ Some e = (forest_of l sane).distinct e (subst (Split l) (same_some t.1 at) t.2) in
      let parts = none_holds _ _ _ fails in
      let y = is_there (entry_of r e.name) parts.1 in
      let strange : e.name.birth ≢ new = λ same.
      let old : is_old new e ≡ false = ap not (ap (λ i. same_id i new) same ∙ same_id-self new) in
      let z : true ≡ false = sym (untrue _ parts.0) ∙ old in cc in
      let both = known e.name e y.0 here y.1 strange in
      let z : true ≡ false = sym (both_true _ _ both.0 both.1) ∙ parts.2 in
      cc
