-- The numbers of all nodes so far, and those of a new revision's.
use Rattle.std.specs.Prelude.{slice_get, Contains, nat_lt}
use Rattle.std.proofs.Common.{◌≡◌, ◌≤◌, ◌<◌, ◌+◌, ◌*◌, ℕ, zero, suc, Bool, true, false, cond, List, [], ◌∷◌, ◌++◌, length, take, Option, Some, None, refl, sym, ap, ◌∙◌, subst, inl, inr, arith}
use Rattle.std.proofs.lemmas.Bool.Decides.{nat_tests}
use Rattle.std.proofs.lemmas.List.{take_all}
use Rattle.std.proofs.lemmas.List.Elements.{Contains-append_right, Contains-append_cases}
use Rattle.mtn_base.specs.Hex.{id_of}
use Rattle.mtn_history_laws.specs.History.{Revision}
use Rattle.mtn_replay.specs.Lawful.{IsHistory, IsNext}
use Rattle.mtn_base.specs.declared.refusal.Cause.TheVariants.{TooManyNodes}
use Rattle.mtn_changeset_laws.specs.Changes.{or_else}
use Rattle.mtn_replay.specs.Making.{made_tree, too_many, too_long, log_full, unknown_parent, bad_change, bad_join, unknown_file, other_manifest}
use Rattle.mtn_replay.proofs.Places.{within}
use Rattle.mtn_replay.proofs.Steps.{both_none}
use Rattle.mtn_replay.proofs.Histories.{log_is_short}
use Rattle.mtn_model.specs.State.{Logged, State}
use Rattle.mtn_model.specs.Table.{Table, Contents}
use Rattle.mtn_history.specs.Stands.{IsFounded}
use Rattle.mtn_history.specs.declared.pending.Pending.{Pending}
use Rattle.mtn_records.specs.declared.entry.NumberedEntry.{NumberedEntry}
use Rattle.mtn_roster.specs.Tree.{Tree}
use Rattle.mtn_roster_deltas.specs.Chain.{Entries}
use Rattle.mtn_roster_deltas.specs.Numbering.{all_of, fresh, AreKnown}
use Rattle.mtn_roster_deltas.proofs.Known.{none_known, in_all, all_known, fresh_long}
use Rattle.mtn_roster_deltas.proofs.Places.{contains_cons}
use Rattle.mtn_history.specs.Revisions.{Kept, next_from, next_of, all_entries, AreKept}
use Rattle.mtn_put_revision.specs.Keeping.{AreKeptAt}

-- of one more revision
next_more : (n : ℕ) (ks : List Kept) (k : Kept) → next_from n (ks ++ k ∷ []) ≡ k.next
next_more n [] k = refl
next_more n (x ∷ ks) k = next_more x.next ks k

entries_more : (ks : List Kept) (k : Kept) → all_entries (ks ++ k ∷ []) ≡ all_entries ks ++ k.entries ∷ []
entries_more [] k = refl
entries_more (x ∷ ks) k = ap (λ es. x.entries ∷ es) (entries_more ks k)

take_next : {X : Type 0} (xs : List X) (m : ℕ) (x : X) → slice_get xs m ≡ Some x → take (suc m) xs ≡ take m xs ++ x ∷ []
take_next [] m x at = absurd cc
take_next (y ∷ ys) zero x at = let same : y ≡ x = cc in ap (λ z. z ∷ []) same
take_next (y ∷ ys) (suc m) x at = ap (λ zs. y ∷ zs) (take_next ys m x at)

-- an accepted tree is small
small_tree : (n : ℕ) → nat_lt 100000 n ≡ false → n ≤ 100000
small_tree n e = grind (arith, nat_tests, e)

pub few_nodes : (t : Tree) → too_many t ≡ None → length t ≤ 100000
few_nodes t none = by (nat_lt 100000 (length t)) refl none
  where
    by : (b : Bool) → nat_lt 100000 (length t) ≡ b → cond b (Some (TooManyNodes (length t))) None ≡ None → length t ≤ 100000
    by true e h = absurd cc
    by false e h = small_tree (length t) e

accepted_few : (f : List ℕ → List ℕ) (files : Table) (h : List Revision) (l : Logged) (v : Revision) → IsNext f files h l v → length v.tree ≤ 100000
accepted_few f files h l v next =
    let new = id_of l.id in
    let r = next.read in
    let t = made_tree h new r.edges in
    let last = or_else (too_long t) (or_else (unknown_file files r.edges) (other_manifest f t r.manifest)) in
    let tree = or_else (too_many t) last in
    let joins = or_else (bad_join h new r.edges) tree in
    let changes = or_else (bad_change h 1 r.edges) joins in
    let a = (both_none (log_full h) (or_else (unknown_parent h r.edges) changes) next.accepted).1 in
    let b = (both_none (unknown_parent h r.edges) changes a).1 in
    let c = (both_none (bad_change h 1 r.edges) joins b).1 in
    let e = (both_none (bad_join h new r.edges) tree c).1 in
    let g = (both_none (too_many t) last e).0 in
    subst (λ (t : Tree). length t ≤ 100000) (sym (ap (λ (r : Revision). r.tree) next.made)) (few_nodes (made_tree h (id_of l.id) next.read.edges) g)

grown_by : (a b n m : ℕ) → a ≤ 1 + 100000 * m → b ≤ 100000 → n ≡ a + b → n ≤ 1 + 100000 * suc m
grown_by a b n m low few is = omega (arith, low, few, is)

pub among_entries : (r : ℕ) (k : Kept) (ls : List Kept) → slice_get ls r ≡ Some k → Contains (all_entries ls) k.entries
among_entries r k [] at = absurd cc
among_entries zero k (x ∷ ls) at = let same : x ≡ k = cc in (0, omega arith, ap (λ (y : Kept). y.entries) same)
among_entries (suc r) k (x ∷ ls) at = Contains-append_right (x.entries ∷ []) (all_entries ls) k.entries (among_entries r k ls at)

-- the entries of parents are among all
pub kept_among : (ks : List Kept) (places : List ℕ) (known : List Entries) → AreKeptAt ks places known → (es : Entries) → Contains known es → Contains (all_entries ks) es
kept_among ks [] [] are es c = absurd (omega (arith, c.1))
kept_among ks [] (x ∷ known) are es c = absurd are
kept_among ks (p ∷ ps) [] are es c = absurd are
kept_among ks (p ∷ ps) (x ∷ known) are es c = elim (contains_cons x known es c) [
  | inl is ↦ subst (λ l. Contains (all_entries ks) l) (sym are.0.2 ∙ is) (among_entries p are.0.0 ks are.0.1)
  | inr t ↦ kept_among ks ps known are.1 es t
]

in_some : (known : List Entries) (e : NumberedEntry) → Contains (all_of known) e → (es : Entries) × Contains known es × Contains es e
in_some [] e c = absurd (omega (arith, c.1))
in_some (x ∷ known) e c = elim (Contains-append_cases x (all_of known) e c) [
  | inl a ↦ (x, (0, omega arith, refl), a)
  | inr b ↦ let r = in_some known e b in (r.0, Contains-append_right (x ∷ []) known r.0 r.1, r.2)
]

pub sub_all : (ks : List Kept) (places : List ℕ) (known : List Entries) → AreKeptAt ks places known → (e : NumberedEntry) → Contains (all_of known) e → Contains (all_of (all_entries ks)) e
sub_all ks places known are e c = let x = in_some known e c in in_all (all_entries ks) x.0 e (kept_among ks places known are x.0 x.1) x.2

-- the revision whose entries these are
pub entries_of : (ks : List Kept) (es : Entries) → Contains (all_entries ks) es → (r : ℕ) × (k : Kept) × (slice_get ks r ≡ Some k) × (k.entries ≡ es)
entries_of [] es c = absurd (omega (arith, c.1))
entries_of (k ∷ ks) es c = elim (contains_cons k.entries (all_entries ks) es c) [
  | inl is ↦ (0, k, refl, is)
  | inr t ↦ let r = entries_of ks es t in (suc r.0, r.1, r.2, r.3)
]

-- the revision whose entries have one of them
pub in_kept : (ks : List Kept) (e : NumberedEntry) → Contains (all_of (all_entries ks)) e → (r : ℕ) × (k : Kept) × (slice_get ks r ≡ Some k) × Contains k.entries e
in_kept [] e c = absurd (omega (arith, c.1))
in_kept (k ∷ ks) e c = elim (Contains-append_cases k.entries (all_of (all_entries ks)) e c) [
  | inl a ↦ (0, k, refl, a)
  | inr b ↦ let r = in_kept ks e b in (suc r.0, r.1, r.2, r.3)
]

module _ (f : List ℕ → List ℕ) (files : Table) (log : List Logged) (h : List Revision) (ks : List Kept) (spelled : IsHistory f files log h) (kept : AreKept h ks) where
  at_each : (m : ℕ) → m < length ks → (l : Logged) × (v : Revision) × (k : Kept) × IsNext f files (take m h) l v × (slice_get h m ≡ Some v) × (slice_get ks m ≡ Some k)
  at_each m lt =
      let k = within ks m lt in
      let v = within h m (subst (λ n. m < n) kept.long lt) in
      let l = within log m (subst (λ n. m < n) (kept.long ∙ spelled.long) lt) in
      (l.0, v.0, k.0, spelled.each m l.0 v.0 l.1 v.1, v.1, k.1)

  -- a next number counts at most 100,000 for each revision
  low_to : (m : ℕ) → m ≤ length ks → next_of (take m ks) ≤ 1 + 100000 * m
  low_to zero le = omega arith
  low_to (suc m) le =
      let e = at_each m (omega (arith, le)) in
      let is = kept.each m e.1 e.2 e.4 e.5 in
      let next : next_of (take (suc m) ks) ≡ e.2.next = ap next_of (take_next ks m e.2 e.5) ∙ next_more 1 (take m ks) e.2 in
      let fresh_few : length (fresh (all_entries (take m ks)) e.1.tree) ≤ 100000 = let t = fresh_long (all_entries (take m ks)) e.1.tree in let u = accepted_few f files (take m h) e.0 e.1 e.3 in omega (arith, t, u) in
      grown_by (next_of (take m ks)) (length (fresh (all_entries (take m ks)) e.1.tree)) (next_of (take (suc m) ks)) m (low_to m (omega (arith, le))) fresh_few (next ∙ is.next)

  pub next_low : next_of ks ≤ 1 + 100000 * length ks
  next_low = subst (λ l. next_of l ≤ 1 + 100000 * length ks) (take_all (length ks) ks (omega arith)) (low_to (length ks) (omega arith))

  known_to : (m : ℕ) → m ≤ length ks → AreKnown (all_entries (take m ks)) (next_of (take m ks))
  known_to zero le = none_known
  known_to (suc m) le =
      let e = at_each m (omega (arith, le)) in
      let is = kept.each m e.1 e.2 e.4 e.5 in
      let more = all_known (all_entries (take m ks)) (next_of (take m ks)) (record { tree = e.1.tree; marks = is.marks }) e.2.entries (known_to m (omega (arith, le))) is.numbered in
      let entries : all_entries (take (suc m) ks) ≡ all_entries (take m ks) ++ e.2.entries ∷ [] = ap all_entries (take_next ks m e.2 e.5) ∙ entries_more (take m ks) e.2 in
      let next : next_of (take (suc m) ks) ≡ next_of (take m ks) + length (fresh (all_entries (take m ks)) e.1.tree) = ap next_of (take_next ks m e.2 e.5) ∙ next_more 1 (take m ks) e.2 ∙ is.next in
      subst (λ n. AreKnown (all_entries (take (suc m) ks)) n) (sym next) (subst (λ es. AreKnown es (next_of (take m ks) + length (fresh (all_entries (take m ks)) e.1.tree))) (sym entries) more)

  -- the numbers of all revisions are known
  pub all_are_known : AreKnown (all_entries ks) (next_of ks)
  all_are_known = subst (λ l. AreKnown (all_entries l) (next_of l)) (take_all (length ks) ks (omega arith)) (known_to (length ks) (omega arith))

  -- so the numbers of parents are known
  pub parents_known : (places : List ℕ) (known : List Entries) → AreKeptAt ks places known → AreKnown known (next_of ks)
  parents_known places known are =
      let all = all_are_known in
      let sub = sub_all ks places known are in
      record {
        next_from_one = all.next_from_one;
        from_one = λ e c. all.from_one e (sub e c);
        below = λ e c. all.below e (sub e c);
        one_number = λ e g c b same. all.one_number e g (sub e c) (sub g b) same;
        one_node = λ e g c b same. all.one_node e g (sub e c) (sub g b) same;
      }

-- no log has a next number past that of all revisions that there may be
past : (n m most : ℕ) → n ≤ 1 + 100000 * m → m ≤ 2147483648 → 214748364800001 < n → ⊥
past n m most low few over = omega (arith, low, few, over)

pub never_past : (f : List ℕ → List ℕ) (told : Option Contents) (p : Pending) (s : State) → (d : IsFounded f told p s) → (n : ℕ) → n ≡ next_of d.stands.kept → 214748364800001 < n → ⊥
never_past f told p s d n is over =
    past n (length d.stands.kept) 0 (subst (λ m. m ≤ 1 + 100000 * length d.stands.kept) (sym is) (next_low f s.files s.log d.stands.history d.stands.kept d.stands.spelled d.stands.revisions))
    (subst (λ m. m ≤ 2147483648) (sym (d.stands.revisions.long ∙ d.stands.spelled.long)) (log_is_short f s.files s.log d.stands.history d.stands.spelled)) over

-- where no node has a number yet, nothing clashes but behind a record
pub logged : (known : List Entries) (next count : ℕ) → (count ≡ 0 → next ≡ 1) → known ≡ [] → (AreKnown known next → ⊥) → 0 < count
logged known next zero first none clash = absurd (clash (subst (λ (k : List Entries). AreKnown k next) (sym none) (subst (AreKnown []) (sym (first refl)) none_known)))
logged known next (suc n) first none clash = omega arith
