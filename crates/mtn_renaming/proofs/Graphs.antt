-- What a renaming of positions keeps of a graph, and of a scalar over it.
use Rattle.std.specs.Prelude.{Contains}
use Rattle.std.proofs.Common.{◌≡◌, ℕ, List, map, Option, sym, ap, ◌∙◌, subst}
use Rattle.mtn_ancestry.specs.Ancestors.{IsAncestor, IsUncommon}
use Rattle.mtn_ancestry.specs.Ancestors.IsAncestor.{itself, through}
use Rattle.mtn_mark_laws.specs.Marks.{IsMarked, IsMarkOf, Wins}
use Rattle.mtn_mark_laws.specs.Marks.IsMarked.{fresh, changed, chosen}
use Rattle.mtn_mark_laws.specs.Marks.IsMarkOf.{here, onward}
use Rattle.mtn_renaming.proofs.Elements.{contains_map, map_contains, map_back}

-- a graph and the same with its positions renamed, both as one scalar sees them
pub record Renames (V : Type 0) (ps qs : ℕ → List ℕ) (val wal : ℕ → Option V) (to back : ℕ → ℕ) : Type 0 where
  pub parents : (r : ℕ) → qs (to r) ≡ map to (ps r)
  pub value : (r : ℕ) → wal (to r) ≡ val r
  pub there : (r : ℕ) → back (to r) ≡ r
  pub here : (r : ℕ) → to (back r) ≡ r

module _ {V : Type 0} {ps qs : ℕ → List ℕ} {val wal : ℕ → Option V} {to back : ℕ → ℕ} where
  pub turned : Renames V ps qs val wal to back → Renames V qs ps wal val back to
  turned n = record {
    parents = λ r. sym (ap (map back) (ap qs (sym (n.here r)) ∙ n.parents (back r)) ∙ map_back to back n.there (ps (back r)));
    value = λ r. sym (n.value (back r)) ∙ ap wal (n.here r);
    there = n.here;
    here = n.there;
  }

  parent_to : Renames V ps qs val wal to back → (r p : ℕ) → Contains (ps r) p → Contains (qs (to r)) (to p)
  parent_to n r p c = subst (λ l. Contains l (to p)) (sym (n.parents r)) (contains_map to (ps r) p c)

  parent_of : Renames V ps qs val wal to back → (r q : ℕ) → Contains (qs (to r)) q → (p : ℕ) × Contains (ps r) p × (to p ≡ q)
  parent_of n r q c = map_contains to (ps r) q (subst (λ l. Contains l q) (n.parents r) c)

  pub ancestor_to : Renames V ps qs val wal to back → {x r : ℕ} → IsAncestor ps x r → IsAncestor qs (to x) (to r)
  ancestor_to n itself = itself
  ancestor_to n (through {r = r} {p = p} c a) = through (parent_to n r p c) (ancestor_to n a)

module _ {V : Type 0} {ps qs : ℕ → List ℕ} {val wal : ℕ → Option V} {to back : ℕ → ℕ} where
  pub ancestor_from : Renames V ps qs val wal to back → {x r : ℕ} → IsAncestor qs (to x) (to r) → IsAncestor ps x r
  ancestor_from n {x} {r} a = subst (λ y. IsAncestor ps y r) (n.there x) (subst (IsAncestor ps (back (to x))) (n.there r) (ancestor_to (turned n) a))

  pub uncommon_to : Renames V ps qs val wal to back → {a b x : ℕ} → IsUncommon ps a b x → IsUncommon qs (to a) (to b) (to x)
  uncommon_to n u = (ancestor_to n u.0, λ b. u.1 (ancestor_from n b))

  pub marked_to : Renames V ps qs val wal to back → {r : ℕ} → IsMarked V ps val r → IsMarked V qs wal (to r)
  marked_to n {r} (fresh e k) = fresh (n.value r ∙ e) (λ q c. let p = parent_of n r q c in ap wal (sym p.2) ∙ n.value p.0 ∙ k p.0 p.1)
  marked_to n {r} (changed e k) = changed (n.value r ∙ e) (λ q w c f. let p = parent_of n r q c in k p.0 w p.1 (sym (n.value p.0) ∙ ap wal p.2 ∙ f))
  marked_to n {r} (chosen {p = p} {q = q} e cp cq eq ep differ a b k) =
      chosen (n.value r ∙ e) (parent_to n r p cp) (parent_to n r q cq) (n.value q ∙ eq) (n.value p ∙ ep) differ (ancestor_to n a) (λ c. b (ancestor_from n c)) (marked_to n k)

module _ {V : Type 0} {ps qs : ℕ → List ℕ} {val wal : ℕ → Option V} {to back : ℕ → ℕ} where
  pub marked_from : Renames V ps qs val wal to back → {r : ℕ} → IsMarked V qs wal (to r) → IsMarked V ps val r
  marked_from n {r} k = subst (IsMarked V ps val) (n.there r) (marked_to (turned n) k)

  pub mark_to : Renames V ps qs val wal to back → {r x : ℕ} → IsMarkOf V ps val r x → IsMarkOf V qs wal (to r) (to x)
  mark_to n (here k) = here (marked_to n k)
  mark_to n {r} (onward {p = p} not c e m) = onward (λ k. not (marked_from n k)) (parent_to n r p c) (n.value p ∙ e ∙ sym (n.value r)) (mark_to n m)

  pub wins_to : Renames V ps qs val wal to back → {a b : ℕ} → Wins V ps val a b → Wins V qs wal (to a) (to b)
  wins_to n {a} {b} w m above k =
      let at = n.here m in
      let wins = w (back m) (ancestor_from n (subst (λ y. IsAncestor qs y (to b)) (sym at) above)) (marked_from n (subst (IsMarked V qs wal) (sym at) k)) in
      subst (λ y. IsAncestor qs y (to a)) at (ancestor_to n wins)

module _ {V : Type 0} {ps qs : ℕ → List ℕ} {val wal : ℕ → Option V} {to back : ℕ → ℕ} where
  pub mark_from : Renames V ps qs val wal to back → {r x : ℕ} → IsMarkOf V qs wal (to r) (to x) → IsMarkOf V ps val r x
  mark_from n {r} {x} m = subst (λ y. IsMarkOf V ps val y x) (n.there r) (subst (IsMarkOf V ps val (back (to r))) (n.there x) (mark_to (turned n) m))

  pub wins_from : Renames V ps qs val wal to back → {a b : ℕ} → Wins V qs wal (to a) (to b) → Wins V ps val a b
  wins_from n {a} {b} w = subst (λ y. Wins V ps val y b) (n.there a) (subst (Wins V ps val (back (to a))) (n.there b) (wins_to (turned n) w))
