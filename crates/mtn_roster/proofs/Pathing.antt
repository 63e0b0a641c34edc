-- The path of a node of a sane tree.
use Rattle.std.specs.Prelude.{option_and_then, reverse}
use Rattle.std.specs.Option.{option_map_or}
use Rattle.std.proofs.Common.{◌≡◌, ℕ, suc, ◌+◌, ◌<◌, ◌≤◌, List, [], ◌∷◌, ◌++◌, length, take, drop, get_or, Some, None, refl, sym, ◌∙◌, ap, subst, ⊎_elim, arith, length-append, append_assoc, append-nil}
use Rattle.std.proofs.lemmas.List.{reverse-append, reverse-reverse, take_more, take-append-drop}
use Rattle.mtn_base.specs.declared.name.NodeName.{NodeName}
use Rattle.mtn_roster.specs.declared.entry.Entry.{Entry}
use Rattle.mtn_roster.specs.declared.entry.Slot.{Slot}
use Rattle.mtn_roster.specs.declared.entry.Slot.TheVariants.{Root, Below}
use Rattle.mtn_roster.specs.Tree.{Tree, entry_of, at_slot, child_of, node_up, node_at, path_up, path_of, EndsAtRoot}
use Rattle.mtn_roster.specs.Tree.EndsAtRoot.{top, under}
use Rattle.mtn_base.proofs.Finding.{Split}
use Rattle.mtn_base.proofs.Members.{of_append, in_left, in_right, split_cons}
use Rattle.mtn_roster.proofs.Forest.{IsForest, name_of, own, split_of, at_slot-is, at_slot-of, node_below, node_there, one_path}

data IsSuffix : List (List ℕ) → List (List ℕ) → Type 0 where
  all : {up : List (List ℕ)} → IsSuffix up up
  most : {vp up : List (List ℕ)} {name : List ℕ} → IsSuffix vp up → IsSuffix vp (name ∷ up)

suffix_le : {vp up : List (List ℕ)} → IsSuffix vp up → length vp ≤ length up
suffix_le all = omega arith
suffix_le (most s) = omega (arith, suffix_le s)

longer : (name : List ℕ) (up vp : List (List ℕ)) → IsSuffix vp up → name ∷ up ≡ vp → ⊥
longer name up vp s e = omega (arith, suffix_le s, ap length e)

-- an element other than x stands in what is left without x
without : {X : Type 0} (xs : List X) (x y : X) (s : Split xs x) → Split xs y → (x ≡ y → ⊥) → Split (s.before ++ s.rest) y
without xs x y s t ne =
    ⊎_elim (in_left s.before s.rest y)
    (λ u. in_right s.before s.rest y (⊎_elim (λ e. absurd (ne e)) (λ v. v) (split_cons x s.rest y u)))
    (of_append s.before (x ∷ s.rest) y (subst (λ l. Split l y) s.is t))

shorter : {X : Type 0} (xs : List X) (x : X) (s : Split xs x) → length xs ≡ suc (length (s.before ++ s.rest))
shorter xs x s = ap length s.is ∙ omega (arith, length-append s.before (x ∷ s.rest), length-append s.before s.rest)

module _ (t : Tree) (o : IsForest t) where
  -- above each node at a path stands one at each path above
  suffix_node : {vp up : List (List ℕ)} → IsSuffix vp up → (e : Entry) → node_up t up ≡ Some e → (d : Entry) × (node_up t vp ≡ Some d)
  suffix_node all e h = (e, h)
  suffix_node {up = name ∷ up} (most s) e h = let d = node_below t o name up e h in suffix_node s d.0 d.1

  crowd : (up : List (List ℕ)) (xs : List Entry) → ((vp : List (List ℕ)) → IsSuffix vp up → (e : Entry) × (node_up t vp ≡ Some e) × Split xs e) → length up < length xs
  crowd [] xs h = let e = h [] all in omega (arith, shorter xs e.0 e.2)
  crowd (name ∷ up) xs h =
      let e = h (name ∷ up) all in
      let rest = crowd up (e.2.before ++ e.2.rest) (λ vp s.
      let d = h vp (most s) in
      (d.0, d.1, without xs e.0 d.0 e.2 d.2 (λ same. longer name up vp s (one_path t o (name ∷ up) vp e.0 e.1 (d.1 ∙ ap Some (sym same)))))) in
      omega (arith, rest, shorter xs e.0 e.2)

  -- a path is shorter than the tree
  pub path_fits : (up : List (List ℕ)) (e : Entry) → node_up t up ≡ Some e → length up < length t
  path_fits up e h = crowd up t (λ vp s.
      let d = suffix_node s e h in
      (d.0, d.1, split_of t d.0.name d.0 (node_there t o vp d.0 d.1)))

  -- the names from a slot up to the root
  pub climb : {s : Slot} → EndsAtRoot (entry_of t) s → (e : Entry) → entry_of t e.name ≡ Some e → e.slot ≡ s → (up : List (List ℕ)) × (node_up t up ≡ Some e)
  climb top e h hangs = ([], ap (at_slot t) (sym hangs) ∙ at_slot-of t o e.name e h)
  climb (under {parent = parent} {name = name} {d = d} at chain) e h hangs =
      let r = climb chain d (own t parent d at) refl in
      (name ∷ r.0, ap (option_and_then (child_of t name)) r.1 ∙ ap (λ n. at_slot t (Below n name)) (name_of t parent d at) ∙ ap (at_slot t) (sym hangs) ∙ at_slot-of t o e.name e h)

  path_up-is : (steps : Tree) (up : List (List ℕ)) (e : Entry) → length up ≤ length steps → node_up t up ≡ Some e → path_up steps t e.slot ≡ reverse up
  path_up-is steps [] e h at = ap (path_up steps t) (at_slot-is t o Root e at).0
  path_up-is [] (name ∷ up) e h at = absurd (omega arith)
  path_up-is (step ∷ steps) (name ∷ up) e h at =
      let d = node_below t o name up e at in
      let there = node_there t o up d.0 d.1 in
      ap (path_up (step ∷ steps) t) d.2
      ∙ ap (λ q. option_map_or (λ (f : Entry). path_up steps t f.slot) q [] ++ name ∷ []) there
      ∙ ap (λ p. p ++ name ∷ []) (path_up-is steps up d.0 (omega arith) d.1)
      ∙ sym (reverse-append (name ∷ []) up)

  -- the path of a node leads to it
  pub path_leads : (n : NodeName) (e : Entry) → entry_of t n ≡ Some e → node_at t (path_of t e) ≡ Some e
  path_leads n e h =
      let c = climb (o.rooted n e h) e (own t n e h) refl in
      let fits = path_fits c.0 e c.1 in
      ap (λ p. node_up t (reverse p)) (path_up-is t c.0 e (omega arith) c.1) ∙ ap (node_up t) (reverse-reverse c.0) ∙ c.1

  -- who stands at a path has it
  pub path_of-at : (p : List (List ℕ)) (e : Entry) → node_at t p ≡ Some e → path_of t e ≡ p
  path_of-at p e h = path_up-is t (reverse p) e (omega (arith, path_fits (reverse p) e h)) h ∙ reverse-reverse p

-- below a path where nothing stands nothing stands
pub node_at-push : (t : Tree) (p : List (List ℕ)) (name : List ℕ) → node_at t (p ++ name ∷ []) ≡ option_and_then (child_of t name) (node_at t p)
node_at-push t p name = ap (node_up t) (reverse-append p (name ∷ []))

pub node_at-none : (t : Tree) (p q : List (List ℕ)) → node_at t p ≡ None → node_at t (p ++ q) ≡ None
node_at-none t p [] h = ap (node_at t) (append-nil p) ∙ h
node_at-none t p (name ∷ q) h =
    ap (node_at t) (sym (append_assoc p (name ∷ []) q))
    ∙ node_at-none t (p ++ name ∷ []) q (node_at-push t p name ∙ ap (option_and_then (child_of t name)) h)

-- one component further
pub node_at-next : (t : Tree) (comps : List (List ℕ)) (i : ℕ) (name : List ℕ) → i < length comps → name ≡ get_or comps i name → node_at t (take (i + 1) comps) ≡ option_and_then (child_of t name) (node_at t (take i comps))
node_at-next t comps i name low is =
    ap (node_at t) (take_more comps i name low ∙ ap (λ c. take i comps ++ c ∷ []) (sym is))
    ∙ node_at-push t (take i comps) name

-- and no further
pub node_at-lost : (t : Tree) (comps : List (List ℕ)) (i : ℕ) → node_at t (take i comps) ≡ None → node_at t comps ≡ None
node_at-lost t comps i h = ap (node_at t) (sym (take-append-drop i comps)) ∙ node_at-none t (take i comps) (drop i comps) h
