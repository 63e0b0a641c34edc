-- For two ids the tree has the same nodes at the same paths, but for the names of what is reborn.
use Rattle.std.proofs.Common.{◌≡◌, ◌⊎◌, ℕ, Bool, true, false, List, Option, Some, None, refl, sym, ◌∙◌, ap, subst, inl, inr}
use Rattle.mtn_base.specs.declared.id.Id.{Id}
use Rattle.mtn_base.specs.declared.name.NodeName.{NodeName}
use Rattle.mtn_roster.specs.declared.entry.Entry.{Entry}
use Rattle.mtn_roster.specs.Tree.{Tree, entry_of, node_at}
use Rattle.mtn_changeset_laws.specs.Laws.{NoneBornIn}
use Rattle.mtn_decide.specs.declared.decision.Decision.{Decision}
use Rattle.mtn_decide.specs.Decisions.{Merge, IsInOrder}
use Rattle.mtn_conflicts.specs.Result.{new_name, new_entry, result_of, ParentsAreDirs, NoneBornIn as NoneDecidedIn}
use Rattle.mtn_conflicts.proofs.Clear.{IsTidy}
use Rattle.mtn_between.specs.Twins.{AreTwins, AreTwinsAt, IsTwinOf}
use Rattle.mtn_merged_trees.proofs.Made.{kept_name, reborn_name, stands, decided_path}

-- a tree has no node of an id that is no birth
unknown : (old : Tree) (x : Id) → NoneBornIn old x → (n : NodeName) → n.birth ≡ x → entry_of old n ≡ None
unknown old x none n b = go (entry_of old n) refl
  where
    go : (o : Option Entry) → entry_of old n ≡ o → o ≡ None
    go None h = refl
    go (Some e) h = absurd (none n e h b)

module _ (old : Tree) (m : Merge) (order : IsInOrder m) (tidy : IsTidy m.nodes) (dirs : ParentsAreDirs m.nodes) where
  module _ (x y : Id) (fx : NoneDecidedIn m.nodes x) (fy : NoneDecidedIn m.nodes y) (ux : NoneBornIn old x) (uy : NoneBornIn old y) where
    names : (d : Decision) → (b : Bool) → d.reborn ≡ b →
        (new_name m.nodes x d ≡ new_name m.nodes y d) ⊎ ((entry_of old (new_name m.nodes x d) ≡ None) × (entry_of old (new_name m.nodes y d) ≡ None))
    names d false r = inl (kept_name m x order tidy dirs fx d r ∙ sym (kept_name m y order tidy dirs fy d r))
    names d true r = inr (
      unknown old x ux (new_name m.nodes x d) (ap (λ (n : NodeName). n.birth) (reborn_name m x order tidy dirs fx d r)),
      unknown old y uy (new_name m.nodes y d) (ap (λ (n : NodeName). n.birth) (reborn_name m y order tidy dirs fy d r)),
    )

    twin : (d : Decision) → AreTwins old (new_entry m.nodes x d) (new_entry m.nodes y d)
    twin d = record { body = refl; attrs = refl; name = names d d.reborn refl }

    pub one_way : (p : List (List ℕ)) (e : Entry) → node_at (result_of m x) p ≡ Some e → (g : Entry) × (node_at (result_of m y) p ≡ Some g) × AreTwins old e g
    one_way p e h =
        let d = decided_path m x order tidy dirs fx p e h in
        let node = d.0.node in (
          new_entry m.nodes y node,
          ap (node_at (result_of m y)) d.1 ∙ stands m y order tidy dirs fy node d.0.there,
          subst (λ (z : Entry). AreTwins old z (new_entry m.nodes y node)) d.0.is (twin node),
        )

  module _ (x y : Id) (fx : NoneDecidedIn m.nodes x) (fy : NoneDecidedIn m.nodes y) (ux : NoneBornIn old x) (uy : NoneBornIn old y) where
    pub twins : IsTwinOf old (result_of m x) (result_of m y)
    twins p = go (node_at (result_of m x) p) (node_at (result_of m y) p) refl refl
      where
        go : (o u : Option Entry) → node_at (result_of m x) p ≡ o → node_at (result_of m y) p ≡ u → AreTwinsAt old o u
        go None None h k = tt
        go (Some e) None h k = absurd (let w = one_way x y fx fy ux uy p e h in let z = w.1 in cc)
        go None (Some g) h k = absurd (let w = one_way y x fy fx uy ux p g k in let z = w.1 in cc)
        go (Some e) (Some g) h k =
            let w = one_way x y fx fy ux uy p e h in
            let same : w.0 ≡ g = (let z = w.1 in cc) in
            subst (AreTwins old e) same w.2
