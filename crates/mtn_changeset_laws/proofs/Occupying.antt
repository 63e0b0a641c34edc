-- Who stands where in the new tree, where no change fails.
use Rattle.std.specs.Prelude.{option_and_then, option_map, find, reverse, not, ◌&&◌, is_none, is_some}
use Rattle.std.specs.Option.{option_map_or}
use Rattle.std.proofs.Common.{◌≡◌, ℕ, Bool, true, false, cond, List, [], ◌∷◌, Option, Some, None, refl, sym, ◌∙◌, ap, subst, ⊎_elim}
use Rattle.std.proofs.lemmas.List.{reverse-reverse}
use Rattle.mtn_base.specs.Names.{same_name, same_path}
use Rattle.mtn_base.specs.declared.id.Id.{Id}
use Rattle.mtn_roster.specs.declared.entry.Entry.{Entry}
use Rattle.mtn_roster.specs.declared.entry.Body.{Body}
use Rattle.mtn_roster.specs.declared.entry.Body.TheVariants.{Dir, File}
use Rattle.mtn_roster.specs.declared.entry.Slot.{Slot}
use Rattle.mtn_roster.specs.declared.entry.Slot.TheVariants.{Root, Below}
use Rattle.mtn_changes.specs.declared.change.Change.{Change}
use Rattle.mtn_changes.specs.declared.change.Change.TheVariants.{Delete, Rename, AddDir, AddFile, Patch, Clear, Set}
use Rattle.mtn_roster.specs.Tree.{Tree, entry_of, at_slot, root_of, child_of, node_at, is_dir, is_dir_body, mtn, EndsAtRoot}
use Rattle.mtn_base.specs.Lists.{is_some_with}
use Rattle.mtn_roster.specs.Tree.EndsAtRoot.{top, under}
use Rattle.mtn_roster.specs.Walk.{is_below}
use Rattle.mtn_changeset_laws.specs.Changes.{Occupant, occupant_name, occupant_body, is_file, is_empty, stands_at, moves, deletes, is_deleted, is_moved, is_kept, if_kept, aims_at, put_by, kept_child, occupant_by, occupant_up, aside_up, parent_up, has_kept_child, slot_up, slot_by}
use Rattle.mtn_changeset_laws.specs.Changes.Occupant.{Old, Added}
use Rattle.mtn_base.proofs.Finding.{Split, found, find-first, find-none, finds_some, some_passes, none_passes, passing_some}
use Rattle.mtn_base.proofs.Tests.{told, both_true, same_name-is, same_name-self, same_path-is, same_path-self}
use Rattle.mtn_changeset_laws.proofs.Passing.{unnot, is_there, Passes, Target, renamed, added_file, deleted, target}
use Rattle.mtn_roster.proofs.Forest.{IsForest, chained, same_some, name_of, split_of, own, at_slot-is, at_slot-of, node_there, one_path}

-- no two renames of one path
abbrev pub RenamesOnce : List Change → Type 0
RenamesOnce all = (p q r : List (List ℕ)) → Split all (Rename p q) → Split all (Rename p r) → q ≡ r

module _ (old : Tree) (o : IsForest old) where
  pub stands : (e : Entry) (p : List (List ℕ)) → entry_of old e.name ≡ Some e → stands_at old e p ≡ true → node_at old p ≡ Some e
  stands e p there h =
      let x = passing_some (λ f. same_name f.name e.name) (node_at old p) h in
      let n : x.0.name ≡ e.name = same_name-is x.0.name e.name x.2 in
      let g : x.0 ≡ e = same_some (subst (λ m. entry_of old m ≡ Some x.0) n (node_there old o (reverse p) x.0 x.1)) there in
      x.1 ∙ ap Some g

  pub stands_self : (e : Entry) (p : List (List ℕ)) → node_at old p ≡ Some e → stands_at old e p ≡ true
  stands_self e p h = ap (is_some_with (λ f. same_name f.name e.name)) h ∙ same_name-self e.name

  record IsMove (e : Entry) (c : Change) : Type 0 where
    from : List (List ℕ)
    to : List (List ℕ)
    is : c ≡ Rename from to
    at : node_at old from ≡ Some e

  moves_is : (e : Entry) (c : Change) → entry_of old e.name ≡ Some e → moves old e c ≡ true → IsMove e c
  moves_is e (Delete p) there h = absurd cc
  moves_is e (Rename p q) there h = record { from = p; to = q; is = refl; at = stands e p there h }
  moves_is e (AddDir p) there h = absurd cc
  moves_is e (AddFile p c) there h = absurd cc
  moves_is e (Patch p c d) there h = absurd cc
  moves_is e (Clear p k) there h = absurd cc
  moves_is e (Set p k v) there h = absurd cc

  deletes_is : (e : Entry) (c : Change) → entry_of old e.name ≡ Some e → deletes old e c ≡ true → (p : List (List ℕ)) × (c ≡ Delete p) × (node_at old p ≡ Some e)
  deletes_is e (Delete p) there h = (p, refl, stands e p there h)
  deletes_is e (Rename p q) there h = absurd cc
  deletes_is e (AddDir p) there h = absurd cc
  deletes_is e (AddFile p c) there h = absurd cc
  deletes_is e (Patch p c d) there h = absurd cc
  deletes_is e (Clear p k) there h = absurd cc
  deletes_is e (Set p k v) there h = absurd cc

  module _ (all : List Change) (new : Id) where
    -- where an occupant hangs in the new tree
    abbrev pub slot_of : Occupant → Slot
    slot_of (Old e) = slot_by old all new e.slot (find (moves old e) all)
    slot_of (Added p body) = slot_up old all new (reverse p)

    -- the occupant is a node of the new tree
    pub data IsPresent : Occupant → Type 0 where
      old_one : {e : Entry} → entry_of old e.name ≡ Some e → is_deleted old all e ≡ false → IsPresent (Old e)
      added_one : {p : List (List ℕ)} {body : Body} {c : Change} → Split all c → aims_at p c ≡ true → put_by old c ≡ Some (Added p body) → IsPresent (Added p body)

    occupant-by : (up : List (List ℕ)) → occupant_up old all up ≡ occupant_by old (aside_up old all up) (find (aims_at (reverse up)) all)
    occupant-by [] = refl
    occupant-by (name ∷ up) = refl

    module _ (once : RenamesOnce all) (ok : Passes old all) where
      slot_of-moved : (e : Entry) (p q : List (List ℕ)) → node_at old p ≡ Some e → Split all (Rename p q) → slot_of (Old e) ≡ slot_up old all new (reverse q)
      slot_of-moved e p q at s =
          let there = node_there old o (reverse p) e at in
          let y = finds_some (moves old e) all (Rename p q) s (stands_self e p at) in
          let f = found (moves old e) all y.0 y.1 in
          let m = moves_is e y.0 there f.passes in
          let same : m.from ≡ p = sym (reverse-reverse m.from) ∙ ap reverse (one_path old o (reverse m.from) (reverse p) e m.at at) ∙ reverse-reverse p in
          let s' : Split all (Rename p m.to) = subst (λ r. Split all (Rename r m.to)) same (subst (Split all) m.is f.at) in
          let to : m.to ≡ q = once p m.to q s' s in
          ap (slot_by old all new e.slot) (y.1 ∙ ap Some m.is) ∙ ap (λ r. slot_up old all new (reverse r)) to

      -- a change puts what it puts at its target
      pub targeted : (q : List (List ℕ)) (c : Change) (s : Split all c) (x : Occupant) → aims_at q c ≡ true → put_by old c ≡ Some x → occupant_up old all (reverse q) ≡ Some x
      targeted q c s x h put =
          let t = target old all ok q c s h in
          let f : find (aims_at q) all ≡ Some c = ap (find (aims_at q)) s.is ∙ find-first (aims_at q) s.before s.rest c t.first h in
          occupant-by (reverse q)
          ∙ ap (λ r. occupant_by old (aside_up old all (reverse q)) (find (aims_at r) all)) (reverse-reverse q)
          ∙ ap (occupant_by old (aside_up old all (reverse q))) f ∙ put

      -- who stands there targets aside stands there
      untargeted : (up : List (List ℕ)) (x : Occupant) → aside_up old all up ≡ Some x → occupant_up old all up ≡ Some x
      untargeted up x h = occupant-by up ∙ at (find (aims_at (reverse up)) all) refl
        where
          at : (c : Option Change) → find (aims_at (reverse up)) all ≡ c → occupant_by old (aside_up old all up) c ≡ Some x
          at None e = h
          at (Some c) e =
              let f = found (aims_at (reverse up)) all c e in
              let t = (target old all ok (reverse up) c f.at f.passes).aside in
              let g : aside_up old all up ≡ None = ap (aside_up old all) (sym (reverse-reverse up)) ∙ t in
              absurd cc

      -- a kept node, by what it is not
      kept_is : (e : Entry) → is_deleted old all e ≡ false → is_moved old all e ≡ false → if_kept old all e ≡ Some (Old e)
      kept_is e d m = ap (λ b. cond (not b && not (is_moved old all e)) (Some (Old e)) None) d ∙ ap (λ b. cond (not b) (Some (Old e)) None) m

      -- a deleted node has no kept child
      parent_stays : (d e : Entry) (name : List ℕ) → entry_of old d.name ≡ Some d → entry_of old e.name ≡ Some e → e.slot ≡ Below d.name name →
          is_kept old all e ≡ true → is_deleted old all d ≡ false
      parent_stays d e name td te hangs kept = ⊎_elim (λ h. absurd (no h)) (λ h. h) (told (is_deleted old all d))
        where
          no : is_deleted old all d ≡ true → ⊥
          no h =
              let y = some_passes (deletes old d) all h in
              let k = deletes_is d y.0 td y.1.passes in
              let f = deleted old all ok k.0 (subst (Split all) k.1 y.1.at) in
              let same : f.0 ≡ d = same_some f.1 k.2 in
              let none : has_kept_child old all d ≡ false = ap (has_kept_child old all) (sym same) ∙ f.2 in
              let below : is_below d.name e.slot ≡ true = ap (is_below d.name) hangs ∙ same_name-self d.name in
              let it = none_passes (λ c. is_below d.name c.slot && is_kept old all c) old e none (split_of old e.name e te) in
              let both = both_true _ _ below kept in
              cc

      abbrev HasPlace : Entry → Type 0
      HasPlace e = (up : List (List ℕ)) × (occupant_up old all up ≡ Some (Old e))

      place_moved : (e : Entry) → entry_of old e.name ≡ Some e → is_moved old all e ≡ true → HasPlace e
      place_moved e there h =
          let y = some_passes (moves old e) all h in
          let m = moves_is e y.0 there y.1.passes in
          (reverse m.to, targeted m.to (Rename m.from m.to) (subst (Split all) m.is y.1.at) (Old e) (same_path-self m.to) (ap (option_map Old) m.at))

      place_root : (e : Entry) → entry_of old e.name ≡ Some e → e.slot ≡ Root → is_deleted old all e ≡ false → is_moved old all e ≡ false → HasPlace e
      place_root e there hangs stays m =
          ([], untargeted [] (Old e) (ap (option_and_then (if_kept old all)) (ap (at_slot old) (sym hangs) ∙ at_slot-of old o e.name e there) ∙ kept_is e stays m))

      place_below : (e d : Entry) (name : List ℕ) → entry_of old e.name ≡ Some e → entry_of old d.name ≡ Some d → e.slot ≡ Below d.name name →
          is_deleted old all e ≡ false → is_moved old all e ≡ false → HasPlace d → HasPlace e
      place_below e d name there td hangs stays m at =
          let p = o.parents e.name d.name e name there hangs in
          let dir : is_dir d ≡ true = subst (λ f. is_dir f ≡ true) (same_some p.1 td) p.2 in
          let child : child_of old name d ≡ Some e = ap (at_slot old) (sym hangs) ∙ at_slot-of old o e.name e there in (
            name ∷ at.0,
            untargeted (name ∷ at.0) (Old e)
                (ap (option_and_then (kept_child old all name)) at.1
                ∙ ap (λ b. cond b (option_and_then (if_kept old all) (child_of old name d)) None) dir
                ∙ ap (option_and_then (if_kept old all)) child ∙ kept_is e stays m),
          )

      -- every node of the new tree has a new path: a moved or added one its target, a kept one by the chain of its old parents
      place_of_old : {s : Slot} → EndsAtRoot (entry_of old) s → (e : Entry) → entry_of old e.name ≡ Some e → e.slot ≡ s → is_deleted old all e ≡ false → HasPlace e
      place_of_old top e there hangs stays = ⊎_elim (place_moved e there) (place_root e there hangs stays) (told (is_moved old all e))
      place_of_old (under {parent = parent} {name = name} {d = d} at chain) e there hangs stays =
          ⊎_elim (place_moved e there) (λ m.
          let n : d.name ≡ parent = name_of old parent d at in
          let td : entry_of old d.name ≡ Some d = own old parent d at in
          let hangs' : e.slot ≡ Below d.name name = hangs ∙ ap (λ k. Below k name) (sym n) in
          let whole : is_kept old all e ≡ true = ap (λ b. not b && not (is_moved old all e)) stays ∙ ap not m in
          place_below e d name there td hangs' stays m (place_of_old chain d td refl (parent_stays d e name td there hangs' whole)))
          (told (is_moved old all e))

      pub place : (x : Occupant) → IsPresent x → (up : List (List ℕ)) × (occupant_up old all up ≡ Some x)
      place (Old e) (old_one there stays) = place_of_old (o.rooted e.name e there) e there refl stays
      place (Added p body) (added_one {c = c} s aims put) = (reverse p, targeted p c s (Added p body) aims put)

      -- what stands at a path is a node of the new tree, and hangs there
      pub record IsStanding (up : List (List ℕ)) (x : Occupant) : Type 0 where
        pub present : IsPresent x
        pub hangs : slot_of x ≡ slot_up old all new up

      record IsKept (e : Entry) (x : Occupant) : Type 0 where
        is : Old e ≡ x
        stays : is_deleted old all e ≡ false
        unmoved : is_moved old all e ≡ false

      if_kept_is : (e : Entry) (x : Occupant) → if_kept old all e ≡ Some x → IsKept e x
      if_kept_is e x h = at (is_deleted old all e) (is_moved old all e) refl refl h
        where
          at : (a b : Bool) → is_deleted old all e ≡ a → is_moved old all e ≡ b → cond (not a && not b) (Some (Old e)) None ≡ Some x → IsKept e x
          at true b p q g = absurd cc
          at false true p q g = absurd cc
          at false false p q g = record { is = cc; stays = p; unmoved = q }

      -- a kept child: of which directory, and which
      record IsChild (name : List ℕ) (d x : Occupant) : Type 0 where
        above : Entry
        child : Entry
        parent : d ≡ Old above
        dir : is_dir above ≡ true
        at : at_slot old (Below above.name name) ≡ Some child
        kept : IsKept child x

      kept_child_is : (name : List ℕ) (d x : Occupant) → kept_child old all name d ≡ Some x → IsChild name d x
      kept_child_is name (Added p body) x h = absurd cc
      kept_child_is name (Old f) x h = at (is_dir f) refl h
        where
          at : (b : Bool) → is_dir f ≡ b → cond b (option_and_then (if_kept old all) (child_of old name f)) None ≡ Some x → IsChild name (Old f) x
          at false p g = absurd cc
          at true p g =
              let c = chained (if_kept old all) (child_of old name f) x g in
              record { above = f; child = c.0; parent = refl; dir = p; at = c.1; kept = if_kept_is c.0 x c.2 }

      -- a node that is not moved hangs where it hung
      slot_of-unmoved : (e : Entry) → is_moved old all e ≡ false → slot_of (Old e) ≡ e.slot
      slot_of-unmoved e m = ap (slot_by old all new e.slot) (find-none (moves old e) all m)

      standing_kept : (up : List (List ℕ)) (e : Entry) (x : Occupant) → entry_of old e.name ≡ Some e → e.slot ≡ slot_up old all new up → IsKept e x → IsStanding up x
      standing_kept up e x there hangs k =
          subst (IsStanding up) k.is (record { present = old_one there k.stays; hangs = slot_of-unmoved e k.unmoved ∙ hangs })

      standing_aside : (up : List (List ℕ)) (x : Occupant) → aside_up old all up ≡ Some x → IsStanding up x
      standing_aside [] x h =
          let c = chained (if_kept old all) (root_of old) x h in
          let a = at_slot-is old o Root c.0 c.1 in
          standing_kept [] c.0 x a.1 a.0 (if_kept_is c.0 x c.2)
      standing_aside (name ∷ up) x h =
          let c = chained (kept_child old all name) (occupant_up old all up) x h in
          let k = kept_child_is name c.0 x c.2 in
          let a = at_slot-is old o (Below k.above.name name) k.child k.at in
          let d : occupant_up old all up ≡ Some (Old k.above) = c.1 ∙ ap Some k.parent in
          standing_kept (name ∷ up) k.child x a.1
          (a.0 ∙ ap (λ q. option_map_or (λ d. Below (occupant_name new d) name) q Root) (sym d)) k.kept

      at_end : (q up : List (List ℕ)) → same_path q (reverse up) ≡ true → reverse q ≡ up
      at_end q up h = ap reverse (same_path-is q (reverse up) h) ∙ reverse-reverse up

      standing_target : (up : List (List ℕ)) (c : Change) (s : Split all c) → aims_at (reverse up) c ≡ true → (x : Occupant) → put_by old c ≡ Some x → IsStanding up x
      standing_target up (Delete p) s h x put = absurd cc
      standing_target up (Rename p q) s h x put =
          let r = renamed old all ok p q s in
          let is : Old r.node ≡ x = let g : Some (Old r.node) ≡ Some x = ap (option_map Old) (sym r.at) ∙ put in cc in
          subst (IsStanding up) is (record {
            present = old_one (node_there old o (reverse p) r.node r.at) r.not_deleted;
            hangs = slot_of-moved r.node p q r.at s ∙ ap (slot_up old all new) (at_end q up h);
          })
      standing_target up (AddDir p) s h x put =
          let is : Added p Dir ≡ x = cc in
          subst (IsStanding up) is (record { present = added_one s (same_path-self p) refl; hangs = ap (slot_up old all new) (at_end p up h) })
      standing_target up (AddFile p content) s h x put =
          let is : Added p (File content) ≡ x = cc in
          subst (IsStanding up) is (record { present = added_one s (same_path-self p) refl; hangs = ap (slot_up old all new) (at_end p up h) })
      standing_target up (Patch p a b) s h x put = absurd cc
      standing_target up (Clear p k) s h x put = absurd cc
      standing_target up (Set p k v) s h x put = absurd cc

      -- by the change whose target the path is, or by none
      data IsBy (up : List (List ℕ)) (x : Occupant) : Type 0 where
        by_target : {c : Change} → Split all c → aims_at (reverse up) c ≡ true → put_by old c ≡ Some x → IsBy up x
        aside : aside_up old all up ≡ Some x → IsBy up x

      by_what : (up : List (List ℕ)) (x : Occupant) → occupant_up old all up ≡ Some x → IsBy up x
      by_what up x h = at (find (aims_at (reverse up)) all) refl (sym (occupant-by up) ∙ h)
        where
          at : (c : Option Change) → find (aims_at (reverse up)) all ≡ c → occupant_by old (aside_up old all up) c ≡ Some x → IsBy up x
          at None e g = aside g
          at (Some c) e g = let f = found (aims_at (reverse up)) all c e in by_target f.at f.passes g

      pub standing : (up : List (List ℕ)) (x : Occupant) → occupant_up old all up ≡ Some x → IsStanding up x
      standing up x h = at (by_what up x h)
        where
          at : IsBy up x → IsStanding up x
          at (by_target {c = c} s aims put) = standing_target up c s aims x put
          at (aside g) = standing_aside up x g

      -- the occupant of the parent path is a directory
      abbrev HasDirAbove : List (List ℕ) → Type 0
      HasDirAbove up = (d : Occupant) × (occupant_up old all up ≡ Some d) × (is_dir_body (occupant_body d) ≡ true)

      parent_there : (q : List (List ℕ)) (before : List Change) (name : List ℕ) (up : List (List ℕ)) → reverse q ≡ name ∷ up → Target old all q before → HasDirAbove up
      parent_there [] before name up e t = absurd cc
      parent_there (a ∷ q) before name up e t =
          let p : is_none (occupant_up old all up) ≡ false = ap (λ r. is_none (parent_up old all r)) (sym e) ∙ t.parent in
          let d = is_there (occupant_up old all up) p in
          let f : is_file (Some d.0) ≡ false = ap is_file (sym d.1) ∙ ap (λ r. is_file (parent_up old all r)) (sym e) ∙ t.dir in
          (d.0, d.1, unnot _ f)

      pub dir_above : (name : List ℕ) (up : List (List ℕ)) (x : Occupant) → occupant_up old all (name ∷ up) ≡ Some x → HasDirAbove up
      dir_above name up x h = at (by_what (name ∷ up) x h)
        where
          at : IsBy (name ∷ up) x → HasDirAbove up
          at (by_target {c = c} s aims put) =
              parent_there (reverse (name ∷ up)) s.before name up (reverse-reverse (name ∷ up)) (target old all ok (reverse (name ∷ up)) c s aims)
          at (aside g) =
              let c = chained (kept_child old all name) (occupant_up old all up) x g in
              let k = kept_child_is name c.0 x c.2 in
              (c.0, c.1, ap (λ d. is_dir_body (occupant_body d)) k.parent ∙ k.dir)

      root_by : (c : Change) (s : Split all c) → aims_at [] c ≡ true → (x : Occupant) → put_by old c ≡ Some x → is_dir_body (occupant_body x) ≡ true
      root_by (Delete p) s h x put = absurd cc
      root_by (Rename p q) s h x put =
          let r = renamed old all ok p q s in
          let is : Old r.node ≡ x = let g : Some (Old r.node) ≡ Some x = ap (option_map Old) (sym r.at) ∙ put in cc in
          let f : (is_empty [] && is_file (Some (Old r.node))) ≡ false = ap (λ t. is_empty t && is_file (Some (Old r.node))) (sym (same_path-is q [] h)) ∙ r.root in
          subst (λ y. is_dir_body (occupant_body y) ≡ true) is (unnot _ f)
      root_by (AddDir p) s h x put =
          let is : Added p Dir ≡ x = cc in
          subst (λ y. is_dir_body (occupant_body y) ≡ true) is refl
      root_by (AddFile p content) s h x put =
          let e : is_empty [] ≡ false = ap is_empty (sym (same_path-is p [] h)) ∙ (added_file old all ok p content s).1 in
          absurd cc
      root_by (Patch p a b) s h x put = absurd cc
      root_by (Clear p k) s h x put = absurd cc
      root_by (Set p k v) s h x put = absurd cc

      -- the occupant of the root path is a directory
      pub root_is_dir : (x : Occupant) → occupant_up old all [] ≡ Some x → is_dir_body (occupant_body x) ≡ true
      root_is_dir x h = at (by_what [] x h)
        where
          at : IsBy [] x → is_dir_body (occupant_body x) ≡ true
          at (by_target {c = c} s aims put) = root_by c s aims x put
          at (aside g) =
              let c = chained (if_kept old all) (root_of old) x g in
              let a = at_slot-is old o Root c.0 c.1 in
              let k = if_kept_is c.0 x c.2 in
              subst (λ y. is_dir_body (occupant_body y) ≡ true) k.is (o.root_dir c.0.name c.0 a.1 a.0)

      -- no root has a kept child named `_MTN`
      inner_by : (f : Entry) (x : Occupant) → IsBy [] (Old f) → kept_child old all mtn (Old f) ≡ Some x → ⊥
      inner_by f x (by_target {c = c} s aims put) child = at c s aims put
        where
          at : (c : Change) (s : Split all c) → aims_at [] c ≡ true → put_by old c ≡ Some (Old f) → ⊥
          at (Delete p) s h put = absurd cc
          at (Rename p q) s h put =
              let r = renamed old all ok p q s in
              let is : r.node ≡ f = let g : Some (Old r.node) ≡ Some (Old f) = ap (option_map Old) (sym r.at) ∙ put in cc in
              let g : is_some (kept_child old all mtn (Old f)) ≡ false =
              ap (λ e. is_some (kept_child old all mtn (Old e))) (sym is) ∙ ap (λ t. is_empty t && is_some (kept_child old all mtn (Old r.node))) (sym (same_path-is q [] h)) ∙ r.inner in
              let k = ap is_some child in
              cc
          at (AddDir p) s h put = absurd cc
          at (AddFile p content) s h put = absurd cc
          at (Patch p a b) s h put = absurd cc
          at (Clear p k) s h put = absurd cc
          at (Set p k v) s h put = absurd cc
      inner_by f x (aside g) child =
          let c = chained (if_kept old all) (root_of old) (Old f) g in
          let a = at_slot-is old o Root c.0 c.1 in
          let k = if_kept_is c.0 (Old f) c.2 in
          let same : c.0 ≡ f = let i = k.is in cc in
          let w = kept_child_is mtn (Old f) x child in
          let b = at_slot-is old o (Below w.above.name mtn) w.child w.at in
          let above : f ≡ w.above = let i = w.parent in cc in
          o.not_mtn w.child.name c.0.name w.child c.0 b.1 a.1 a.0 (b.0 ∙ ap (λ e. Below e.name mtn) (sym above ∙ sym same))

      pub no_mtn : (x : Occupant) → occupant_up old all (mtn ∷ []) ≡ Some x → ⊥
      no_mtn x h = at (by_what (mtn ∷ []) x h)
        where
          at : IsBy (mtn ∷ []) x → ⊥
          at (by_target {c = c} s aims put) =
              let t = (target old all ok (mtn ∷ []) c s aims).reserved in
              let u = same_path-self (mtn ∷ []) in
              cc
          at (aside g) =
              let c = chained (kept_child old all mtn) (occupant_up old all []) x g in
              let w = kept_child_is mtn c.0 x c.2 in
              inner_by w.above x (by_what [] (Old w.above) (c.1 ∙ ap Some w.parent)) (ap (kept_child old all mtn) (sym w.parent) ∙ c.2)

-- an added node stands at its path alone
module _ (old : Tree) (all : List Change) where
  only_old : (e : Entry) (p : List (List ℕ)) (body : Body) → if_kept old all e ≡ Some (Added p body) → ⊥
  only_old e p body h = at (is_kept old all e) h
    where
      at : (b : Bool) → cond b (Some (Old e)) None ≡ Some (Added p body) → ⊥
      at true g = cc
      at false g = cc

  aside_old : (up : List (List ℕ)) (p : List (List ℕ)) (body : Body) → aside_up old all up ≡ Some (Added p body) → ⊥
  aside_old [] p body h = let c = chained (if_kept old all) (root_of old) (Added p body) h in only_old c.0 p body c.2
  aside_old (name ∷ up) p body h =
      let c = chained (kept_child old all name) (occupant_up old all up) (Added p body) h in
      below c.0 c.2
    where
      below : (d : Occupant) → kept_child old all name d ≡ Some (Added p body) → ⊥
      below (Added q b) g = cc
      below (Old d) g = at (is_dir d) g
        where
          at : (b : Bool) → cond b (option_and_then (if_kept old all) (child_of old name d)) None ≡ Some (Added p body) → ⊥
          at false g = cc
          at true g = let c = chained (if_kept old all) (child_of old name d) (Added p body) g in only_old c.0 p body c.2

  put_where : (q p : List (List ℕ)) (body : Body) (c : Change) → aims_at q c ≡ true → put_by old c ≡ Some (Added p body) → p ≡ q
  put_where q p body (Delete a) h put = absurd cc
  put_where q p body (Rename a b) h put = absurd (no (node_at old a) put)
    where
      no : (x : Option Entry) → option_map Old x ≡ Some (Added p body) → ⊥
      no None g = cc
      no (Some e) g = cc
  put_where q p body (AddDir a) h put = let same : a ≡ p = cc in sym same ∙ same_path-is a q h
  put_where q p body (AddFile a content) h put = let same : a ≡ p = cc in sym same ∙ same_path-is a q h
  put_where q p body (Patch a b c) h put = absurd cc
  put_where q p body (Clear a k) h put = absurd cc
  put_where q p body (Set a k v) h put = absurd cc

  pub added_where : (q p : List (List ℕ)) (body : Body) → occupant_up old all (reverse q) ≡ Some (Added p body) → p ≡ q
  added_where q p body h = by_change (find (aims_at (reverse (reverse q))) all) refl (sym (by_first (reverse q)) ∙ h)
    where
      by_first : (up : List (List ℕ)) → occupant_up old all up ≡ occupant_by old (aside_up old all up) (find (aims_at (reverse up)) all)
      by_first [] = refl
      by_first (name ∷ up) = refl

      by_change : (c : Option Change) → find (aims_at (reverse (reverse q))) all ≡ c → occupant_by old (aside_up old all (reverse q)) c ≡ Some (Added p body) → p ≡ q
      by_change None e g = absurd (aside_old (reverse q) p body g)
      by_change (Some c) e g = put_where (reverse (reverse q)) p body c (found (aims_at (reverse (reverse q))) all c e).passes g ∙ reverse-reverse q
