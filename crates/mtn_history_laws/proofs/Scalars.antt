-- In a grown history of trees no scalar comes back, and the local rule gives every scalar's marks.
use Rattle.std.specs.Prelude.{Contains, IsSome, option_map, option_and_then}
use Rattle.std.proofs.Common.{◌≡◌, ◌↔◌, ℕ, ◌<◌, length, List, [], ◌∷◌, ◌++◌, Option, Some, None, ◌⊎◌, refl, sym, ◌∙◌, ap, inl, inr, subst, ⊎_elim}
use Rattle.mtn_ancestry.specs.Ancestors.{IsAncestor, ParentsAreEarlier}
use Rattle.mtn_ancestry.specs.Ancestors.IsAncestor.{itself, through}
use Rattle.mtn_ancestry.proofs.Members.{Contains-head, Contains-later}
use Rattle.mtn_ancestry.proofs.Ancestry.{IsAncestor-trans}
use Rattle.mtn_mark_laws.specs.Marks.{NeverComesBack}
use Rattle.mtn_mark_laws.specs.Rule.{Side, IsSideAt, AreUncommon, IsMarkByRule}
use Rattle.mtn_mark_laws.proofs.Local.{root_rule, one_rule, two_rule}
use Rattle.mtn_mark_laws.proofs.Stable.{Agree, get_kept, get_last, early_by, IsSideAt-kept, AreUncommon-kept}
use Rattle.mtn_roster.specs.declared.entry.Body.{Body}
use Rattle.mtn_roster.specs.declared.entry.Body.TheVariants.{Dir, File}
use Rattle.mtn_roster.specs.declared.entry.Entry.{Entry}
use Rattle.mtn_roster.specs.Tree.{attr_of, is_dir_body}
use Rattle.mtn_history_laws.specs.History.{Revision, revision_parents, revision_tree, parents_at, entry_at, IsGrown}
use Rattle.mtn_history_laws.specs.Scalars.{Scalar, Value, node_of, content_of, value_of, value_in, value_at, IsMark, AreMarksAt, side_of}
use Rattle.mtn_history_laws.specs.Scalars.Scalar.{SlotOf, ContentOf, AttrOf}
use Rattle.mtn_history_laws.specs.Scalars.Value.{ContentValue, AttrValue}
use Rattle.mtn_history_laws.proofs.Telling.{tell_value}

is_some_of : {A : Type 0} (o : Option A) (a : A) → o ≡ Some a → IsSome o
is_some_of None a e = absurd cc
is_some_of (Some b) a e = refl

pub some_of : {A : Type 0} (o : Option A) → IsSome o → (a : A) × (o ≡ Some a)
some_of None h = absurd cc
some_of (Some a) h = (a, refl)

valued : {A : Type 0} (f : A → Value) (o : Option A) → IsSome o → IsSome (option_map f o)
valued f None h = absurd cc
valued f (Some a) h = refl

unvalued : {A : Type 0} (f : A → Value) (o : Option A) → IsSome (option_map f o) → IsSome o
unvalued f None h = absurd cc
unvalued f (Some a) h = refl

-- two bodies of one kind have a content or none
same_kind : (a b : Body) → is_dir_body a ≡ is_dir_body b → IsSome (content_of b) → IsSome (content_of a)
same_kind a Dir e h = absurd cc
same_kind Dir (File d) e h = absurd cc
same_kind (File c) (File d) e h = refl

-- where a scalar is there, its node is
has_node : (s : Scalar) (o : Option Entry) (w : Value) → option_and_then (value_of s) o ≡ Some w → (e : Entry) × (o ≡ Some e)
has_node s None w h = absurd cc
has_node s (Some e) w h = (e, refl)

module _ (log : List Revision) (grown : IsGrown log) where
  -- a scalar of a parent is one of the child, if the child has the node
  persists : (s : Scalar) (r p : ℕ) (e : Entry) → Contains (parents_at log r) p → entry_at log r (node_of s) ≡ Some e →
      (o : Option Entry) → entry_at log p (node_of s) ≡ o → IsSome (option_and_then (value_of s) o) → IsSome (value_of s e)
  persists s r p e c at_r None at_p h = absurd cc
  persists (SlotOf n) r p e c at_r (Some f) at_p h = refl
  persists (ContentOf n) r p e c at_r (Some f) at_p h =
      valued ContentValue (content_of e.body) (same_kind e.body f.body (grown.kind r p n e f c at_r at_p) (unvalued ContentValue (content_of f.body) h))
  persists (AttrOf n k) r p e c at_r (Some f) at_p h =
      valued AttrValue (attr_of e.attrs k) (grown.keys r p n k e f c at_r at_p (unvalued AttrValue (attr_of f.attrs k) h))

  -- the node was not born below p, where p lacks it and a child has it
  not_below : (s : Scalar) (r p m : ℕ) (v w : Value) → Contains (parents_at log r) p → value_at log s r ≡ Some v →
      entry_at log p (node_of s) ≡ None → IsAncestor (parents_at log) m p → value_at log s m ≡ Some w → ⊥
  not_below s r p m v w c at_r at_p a at_m =
      let u = has_node s (entry_at log r (node_of s)) v at_r in
      let t = has_node s (entry_at log m (node_of s)) w at_m in
      let b = grown.born m (node_of s) t.0 t.1 in
      grown.gone r p (node_of s) u.0 c u.1 at_p b.0 b.1 (IsAncestor-trans a b.2)

  -- where an ancestor has the scalar, the node was lost or the scalar is there
  descends : (s : Scalar) {m p : ℕ} (w : Value) → IsAncestor (parents_at log) m p → value_at log s m ≡ Some w →
      (entry_at log p (node_of s) ≡ None) ⊎ IsSome (value_at log s p)
  descends s w itself h = inr (is_some_of _ w h)
  descends s {m = m} {p = p} w (through {p = q} c a) h = at (entry_at log p (node_of s)) refl (descends s w a h)
    where
      at : (o : Option Entry) → entry_at log p (node_of s) ≡ o → (entry_at log q (node_of s) ≡ None) ⊎ IsSome (value_at log s q) →
          (entry_at log p (node_of s) ≡ None) ⊎ IsSome (value_at log s p)
      at None g before = inl g
      at (Some e) g before =
          let t = has_node s (entry_at log m (node_of s)) w h in
          let b = grown.born m (node_of s) t.0 t.1 in
          ⊎_elim
          (λ none. absurd (grown.gone p q (node_of s) e c g none b.0 b.1 (IsAncestor-trans a b.2)))
          (λ there. inr (subst (λ o. IsSome (option_and_then (value_of s) o)) (sym g) (persists s p q e c g (entry_at log q (node_of s)) refl there)))
          before

  pub never_back : (s : Scalar) → NeverComesBack Value (parents_at log) (value_at log s)
  never_back s r p m v w c at_r at_p a at_m =
      ⊎_elim
      (λ none. not_below s r p m v w c at_r none a at_m)
      (λ there. let k = some_of _ there in let e = k.1 in cc)
      (descends s w a at_m)

agrees : (s : Scalar) (log : List Revision) (new : Revision) → ParentsAreEarlier (parents_at (log ++ new ∷ [])) →
    Agree Value (length log) (parents_at log) (parents_at (log ++ new ∷ [])) (value_at log s) (value_at (log ++ new ∷ []) s)
agrees s log new early = record {
  same_parents = λ r h. ap revision_parents (sym (get_kept log (new ∷ []) r h));
  same_value = λ r h. ap (λ o. value_in (revision_tree o) s) (sym (get_kept log (new ∷ []) r h));
  early = early_by revision_parents refl log (new ∷ []) early;
  early' = early;
}

side_is : (log : List Revision) (p : ℕ) (marks : Scalar → List ℕ) → AreMarksAt log p marks → (s : Scalar) →
    (o : Option Value) → value_at log s p ≡ o → IsSideAt Value (parents_at log) (value_at log s) p (side_of o (marks s))
side_is log p marks told s None e = e
side_is log p marks told s (Some w) e = (e, told s w e)

module _ (log : List Revision) (new : Revision) (grown : IsGrown (log ++ new ∷ [])) (s : Scalar) (v : Value)
    (there : value_at (log ++ new ∷ []) s (length log) ≡ Some v) where
  the_parents : parents_at (log ++ new ∷ []) (length log) ≡ new.parents
  the_parents = ap revision_parents (get_last log new)

  -- by what the parents have of the scalar
  pub two_sided : (p q : ℕ) → new.parents ≡ p ∷ q ∷ [] → (l r : Option (Side Value)) →
      IsSideAt Value (parents_at log) (value_at log s) p l → IsSideAt Value (parents_at log) (value_at log s) q r → (only_left only_right : List ℕ) →
      AreUncommon (parents_at log) p q only_left → AreUncommon (parents_at log) q p only_right → (x : ℕ) →
      IsMarkByRule Value (length log) v only_left only_right l r x ↔ IsMark (log ++ new ∷ []) s (length log) x
  two_sided p q both l r hl hr only_left only_right ul ur =
      let lp : p < length log = grown.earlier (length log) p (subst (λ ps. Contains ps p) (sym (the_parents ∙ both)) (Contains-head p (q ∷ []))) in
      let lq : q < length log = grown.earlier (length log) q (subst (λ ps. Contains ps q) (sym (the_parents ∙ both)) (Contains-later p (q ∷ []) (Contains-head q []))) in
      let g = agrees s log new grown.earlier in
      two_rule Value tell_value _ grown.earlier _ (never_back (log ++ new ∷ []) grown s) (length log) v there p q (the_parents ∙ both) l r
      (IsSideAt-kept g p l lp hl) (IsSideAt-kept g q r lq hr)
      only_left only_right (AreUncommon-kept g p q only_left lp lq ul) (AreUncommon-kept g q p only_right lq lp ur)

  pub one_sided : (p : ℕ) → new.parents ≡ p ∷ [] → (l : Option (Side Value)) → IsSideAt Value (parents_at log) (value_at log s) p l → (x : ℕ) →
      IsMarkByRule Value (length log) v [] [] l None x ↔ IsMark (log ++ new ∷ []) s (length log) x
  one_sided p one l h =
      let lp : p < length log = grown.earlier (length log) p (subst (λ ps. Contains ps p) (sym (the_parents ∙ one)) (Contains-head p [])) in
      one_rule Value tell_value _ grown.earlier _ (never_back (log ++ new ∷ []) grown s) (length log) v there p (the_parents ∙ one) l
      (IsSideAt-kept (agrees s log new grown.earlier) p l lp h)

  pub root_marked : new.parents ≡ [] → (x : ℕ) →
      IsMarkByRule Value (length log) v [] [] None None x ↔ IsMark (log ++ new ∷ []) s (length log) x
  root_marked none = root_rule Value tell_value _ grown.earlier _ (never_back (log ++ new ∷ []) grown s) (length log) v there (the_parents ∙ none)

  -- by the marks of all scalars of the parents
  pub two_marked : (p q : ℕ) → new.parents ≡ p ∷ q ∷ [] → (left right : Scalar → List ℕ) →
      AreMarksAt log p left → AreMarksAt log q right → (only_left only_right : List ℕ) →
      AreUncommon (parents_at log) p q only_left → AreUncommon (parents_at log) q p only_right → (x : ℕ) →
      IsMarkByRule Value (length log) v only_left only_right (side_of (value_at log s p) (left s)) (side_of (value_at log s q) (right s)) x
      ↔ IsMark (log ++ new ∷ []) s (length log) x
  two_marked p q both left right hl hr =
      two_sided p q both _ _ (side_is log p left hl s (value_at log s p) refl) (side_is log q right hr s (value_at log s q) refl)

  pub one_marked : (p : ℕ) → new.parents ≡ p ∷ [] → (marks : Scalar → List ℕ) → AreMarksAt log p marks → (x : ℕ) →
      IsMarkByRule Value (length log) v [] [] (side_of (value_at log s p) (marks s)) None x ↔ IsMark (log ++ new ∷ []) s (length log) x
  one_marked p one marks h = one_sided p one _ (side_is log p marks h s (value_at log s p) refl)
