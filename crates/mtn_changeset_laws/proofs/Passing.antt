-- What it says that a changeset has no fault.
use Rattle.std.specs.Prelude.{◌&&◌, not, is_some, is_none, option_map, option_and_then, reverse}
use Rattle.std.specs.List.{list_any}
use Rattle.std.proofs.Common.{◌≡◌, ℕ, Bool, true, false, cond, List, [], ◌∷◌, ◌++◌, Option, Some, None, refl, sym, ◌∙◌, ap, subst, append_assoc}
use Rattle.std.proofs.lemmas.List.{append-nil}
use Rattle.mtn_base.specs.Names.{same_id, same_path}
use Rattle.mtn_base.specs.declared.refusal.Why.TheVariants.{NoPath, NotFile, WrongContent, NoChange}
use Rattle.mtn_base.specs.declared.id.Id.{Id}
use Rattle.mtn_base.specs.declared.refusal.Why.{Why}
use Rattle.mtn_roster.specs.declared.entry.Entry.{Entry}
use Rattle.mtn_changes.specs.declared.change.Change.{Change}
use Rattle.mtn_changes.specs.declared.change.Change.TheVariants.{Delete, Rename, AddDir, AddFile, Patch, Clear, Set}
use Rattle.mtn_roster.specs.Tree.{Tree, node_at, mtn}
use Rattle.mtn_base.specs.Lists.{is_some_with}
use Rattle.mtn_changeset_laws.specs.Changes.{Fault, Occupant, why, or_else, fault_from, first_fault, occupant, occupant_up, aside_up, parent_up, aims_at, is_empty, is_file, is_deleted, has_kept_child, kept_child, has_content}
use Rattle.mtn_changeset_laws.specs.Changes.Occupant.{Old}
use Rattle.mtn_base.proofs.Finding.{Split, either_false}
use Rattle.mtn_base.proofs.Tests.{same_path-is}

pub not_first : (b : Bool) (w : Why) (o : Option Why) → cond b (Some w) o ≡ None → (b ≡ false) × (o ≡ None)
not_first true w o h = absurd cc
not_first false w o h = (refl, h)

both_none : {A : Type 0} (x y : Option A) → or_else x y ≡ None → (x ≡ None) × (y ≡ None)
both_none None y h = (refl, h)
both_none (Some a) y h = absurd cc

unmapped : {A B : Type 0} (f : A → B) (x : Option A) → option_map f x ≡ None → x ≡ None
unmapped f None h = refl
unmapped f (Some a) h = absurd cc

pub is_there : {A : Type 0} (x : Option A) → is_none x ≡ false → (a : A) × (x ≡ Some a)
is_there None h = absurd cc
is_there (Some a) h = (a, refl)

pub is_not_there : {A : Type 0} (x : Option A) → is_some x ≡ false → x ≡ None
is_not_there None h = refl
is_not_there (Some a) h = absurd cc

no_fault : (o : Option Occupant) (f : Fault) → cond (is_none o) (Some f) None ≡ None → (q : Occupant) × (o ≡ Some q)
no_fault None f h = absurd cc
no_fault (Some q) f h = (q, refl)

pub unnot : (b : Bool) → not b ≡ false → b ≡ true
unnot true h = refl
unnot false h = absurd cc

-- every change passes, and the root path has an occupant
pub record Passes (old : Tree) (all : List Change) : Type 0 where
  pub root : (o : Occupant) × (occupant_up old all [] ≡ Some o)
  pub each : (c : Change) (s : Split all c) → why old all s.before c ≡ None

module _ (old : Tree) (all : List Change) where
  root_left : (before rest : List Change) → fault_from old all before rest ≡ None → (o : Occupant) × (occupant_up old all [] ≡ Some o)
  root_left before [] h = no_fault _ _ h
  root_left before (c ∷ rest) h = root_left (before ++ c ∷ []) rest (both_none _ _ h).1

  each_left : (before pre rest : List Change) (c : Change) → fault_from old all before (pre ++ c ∷ rest) ≡ None → why old all (before ++ pre) c ≡ None
  each_left before [] rest c h = subst (λ b. why old all b c ≡ None) (sym (append-nil before)) (unmapped _ _ (both_none _ _ h).0)
  each_left before (y ∷ pre) rest c h =
      subst (λ b. why old all b c ≡ None) (append_assoc before (y ∷ []) pre) (each_left (before ++ y ∷ []) pre rest c (both_none _ _ h).1)

  pub passes : first_fault old all ≡ None → Passes old all
  passes h = record {
    root = root_left [] all h;
    each = λ c s. each_left [] s.before s.rest c (subst (λ l. fault_from old all [] l ≡ None) s.is h);
  }

  -- what is known of a target
  pub record Target (q : List (List ℕ)) (before : List Change) : Type 0 where
    pub reserved : same_path q (mtn ∷ []) ≡ false
    pub first : list_any (aims_at q) before ≡ false
    pub aside : aside_up old all (reverse q) ≡ None
    pub parent : (not (is_empty q) && is_none (parent_up old all (reverse q))) ≡ false
    pub dir : is_file (parent_up old all (reverse q)) ≡ false

  -- what is known of a change that passed, by its kind
  pub record Renamed (p q : List (List ℕ)) (before : List Change) : Type 0 where
    pub node : Entry
    pub at : node_at old p ≡ Some node
    pub not_deleted : is_deleted old all node ≡ false
    pub target : Target q before
    pub inner : (is_empty q && is_some (kept_child old all mtn (Old node))) ≡ false
    pub root : (is_empty q && is_file (Some (Old node))) ≡ false

  module _ (ok : Passes old all) where
    pub renamed : (p q : List (List ℕ)) (s : Split all (Rename p q)) → Renamed p q s.before
    renamed p q s =
        let a = not_first _ _ _ (ok.each (Rename p q) s) in
        let b = not_first _ _ _ a.1 in
        let c = not_first _ _ _ b.1 in
        let d = not_first _ _ _ c.1 in
        let e = not_first _ _ _ d.1 in
        let f = not_first _ _ _ e.1 in
        let a2 = either_false _ _ a.0 in
        let c2 = either_false _ _ c.0 in
        let d2 = either_false _ _ d.0 in
        let f2 = either_false _ _ f.0 in
        let n = is_there (node_at old p) a2.0 in
        record {
          node = n.0;
          at = n.1;
          not_deleted = ap (is_some_with (is_deleted old all)) (sym n.1) ∙ a2.1;
          target = record { reserved = c2.0; first = d2.0; aside = is_not_there _ d2.1; parent = e.0; dir = f2.0 };
          inner = ap (λ o. is_empty q && is_some (option_and_then (kept_child old all mtn) (option_map Old o))) (sym n.1) ∙ c2.1;
          root = ap (λ o. is_empty q && is_file (option_map Old o)) (sym n.1) ∙ f2.1;
        }

    pub added_dir : (p : List (List ℕ)) (s : Split all (AddDir p)) → Target p s.before
    added_dir p s =
        let c = not_first _ _ _ (ok.each (AddDir p) s) in
        let d = not_first _ _ _ c.1 in
        let e = not_first _ _ _ d.1 in
        let f = not_first _ _ _ e.1 in
        let d2 = either_false _ _ d.0 in
        record { reserved = c.0; first = d2.0; aside = is_not_there _ d2.1; parent = e.0; dir = f.0 }

    pub added_file : (p : List (List ℕ)) (content : Id) (s : Split all (AddFile p content)) → Target p s.before × (is_empty p ≡ false)
    added_file p content s =
        let c = not_first _ _ _ (ok.each (AddFile p content) s) in
        let d = not_first _ _ _ c.1 in
        let e = not_first _ _ _ d.1 in
        let f = not_first _ _ _ e.1 in
        let d2 = either_false _ _ d.0 in
        let f2 = either_false _ _ f.0 in
        (record { reserved = c.0; first = d2.0; aside = is_not_there _ d2.1; parent = e.0; dir = f2.0 }, f2.1)

    pub deleted : (p : List (List ℕ)) (s : Split all (Delete p)) → (e : Entry) × (node_at old p ≡ Some e) × (has_kept_child old all e ≡ false)
    deleted p s =
        let a = not_first _ _ _ (ok.each (Delete p) s) in
        let b = not_first _ _ _ a.1 in
        let n = is_there (node_at old p) a.0 in
        (n.0, n.1, ap (is_some_with (has_kept_child old all)) (sym n.1) ∙ b.0)

    pub patched : (p : List (List ℕ)) (from to : Id) (s : Split all (Patch p from to)) → has_content from (occupant old all p) ≡ true
    patched p from to s =
        let a = not_first (is_none (occupant old all p)) NoPath _ (ok.each (Patch p from to) s) in
        let b = not_first (not (is_file (occupant old all p))) NotFile _ a.1 in
        let c = not_first (not (has_content from (occupant old all p))) WrongContent (cond (same_id from to) (Some NoChange) None) b.1 in
        unnot (has_content from (occupant old all p)) c.0

    -- a change with this target
    pub target : (q : List (List ℕ)) (c : Change) (s : Split all c) → aims_at q c ≡ true → Target q s.before
    target q (Delete p) s h = absurd cc
    target q (Rename p to) s h = subst (λ t. Target t s.before) (same_path-is to q h) (renamed p to s).target
    target q (AddDir p) s h = subst (λ t. Target t s.before) (same_path-is p q h) (added_dir p s)
    target q (AddFile p content) s h = subst (λ t. Target t s.before) (same_path-is p q h) (added_file p content s).0
    target q (Patch p from to) s h = absurd cc
    target q (Clear p key) s h = absurd cc
    target q (Set p key value) s h = absurd cc
