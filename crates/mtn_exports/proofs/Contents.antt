-- The texts of a log, and the contents that they bring.
use Rattle.std.specs.Prelude.{Contains, find, is_none, option_map, slice_get}
use Rattle.std.specs.FinMap.{get}
use Rattle.std.proofs.Common.{◌≡◌, ◌<◌, ℕ, zero, suc, Bool, true, false, cond, List, [], ◌∷◌, take, Option, Some, None, refl, sym, ap, ◌∙◌, subst, ⊎_elim}
use Rattle.mtn_answers.specs.Queries.{IsHeld}
use Rattle.mtn_base.specs.Hex.{id_of}
use Rattle.mtn_base.specs.Names.{same_bytes}
use Rattle.mtn_base.specs.declared.id.Id.{Id}
use Rattle.mtn_base.specs.declared.refusal.Cause.TheVariants.{UnknownFile}
use Rattle.mtn_base.proofs.IdOrder.{contains_cases, contains_nil}
use Rattle.mtn_base.proofs.Tests.{same_bytes-self}
use Rattle.mtn_changes.specs.declared.change.Revision.{Revision as Spelled}
use Rattle.mtn_changes.proofs.OneValue.{same_revision}
use Rattle.mtn_history_laws.specs.History.{Revision, IsPlaceOf}
use Rattle.mtn_model.specs.State.{Logged}
use Rattle.mtn_model.specs.Table.{Table}
use Rattle.mtn_replay.specs.Lawful.{IsHistory, IsNext, Spells}
use Rattle.mtn_changeset_laws.specs.Changes.{or_else}
use Rattle.mtn_replay.specs.Making.{bad_change, bad_join, log_full, made_tree, new_contents, other_manifest, refusal_of, too_long, too_many, tree_refusal, unknown_file, unknown_parent}
use Rattle.mtn_replay.specs.Texts.{text_under}
use Rattle.mtn_replay.proofs.Places.{inside, within}
use Rattle.mtn_replay.proofs.Steps.{both_none, first_fails, is_there, unmapped}

-- what is found stands somewhere
stands_by : {X : Type 0} (test : X → Bool) (y x : X) (ys : List X) (b : Bool) → cond b (Some y) (find test ys) ≡ Some x → (find test ys ≡ Some x → (k : ℕ) × (slice_get ys k ≡ Some x)) → (k : ℕ) × (slice_get (y ∷ ys) k ≡ Some x)
stands_by test y x ys true e rest = (0, e)
stands_by test y x ys false e rest = let o = rest e in (suc o.0, o.1)

stands : {X : Type 0} (test : X → Bool) (xs : List X) (x : X) → find test xs ≡ Some x → (k : ℕ) × (slice_get xs k ≡ Some x)
stands test [] x found = absurd cc
stands test (y ∷ ys) x found = stands_by test y x ys (test y) found (stands test ys x)

-- where something that passes stands, something is found
found_by : {X : Type 0} (test : X → Bool) (y x : X) (ys : List X) (b : Bool) → test y ≡ b → (k : ℕ) → slice_get (y ∷ ys) k ≡ Some x → test x ≡ true → ((j : ℕ) → slice_get ys j ≡ Some x → (z : X) × (find test ys ≡ Some z)) → (z : X) × (find test (y ∷ ys) ≡ Some z)
found_by test y x ys true is k at passes rest = (y, ap (λ b. cond b (Some y) (find test ys)) is)
found_by test y x ys false is zero at passes rest = absurd (let here : y ≡ x = cc in let t : true ≡ false = sym passes ∙ ap test (sym here) ∙ is in cc)
found_by test y x ys false is (suc k) at passes rest = let o = rest k at in (o.0, ap (λ b. cond b (Some y) (find test ys)) is ∙ o.1)

found_at : {X : Type 0} (test : X → Bool) (xs : List X) (k : ℕ) (x : X) → slice_get xs k ≡ Some x → test x ≡ true → (z : X) × (find test xs ≡ Some z)
found_at test [] k x at passes = absurd cc
found_at test (y ∷ ys) k x at passes = found_by test y x ys (test y) refl k at passes (λ j there. found_at test ys j x there passes)

-- each of these ids has a value
all_held : (files : Table) (ids : List Id) → find (λ (id : Id). is_none (get files id.0)) ids ≡ None → (x : Id) → Contains ids x → (bytes : List ℕ) × (get files x.0 ≡ Some bytes)
all_held files [] none x c = absurd (contains_nil c)
all_held files (id ∷ ids) none x c =
    let t = first_fails (λ (i : Id). is_none (get files i.0)) id ids none in
    ⊎_elim (λ e. subst (λ (i : Id). (bytes : List ℕ) × (get files i.0 ≡ Some bytes)) e (is_there (get files id.0) t.0)) (λ d. all_held files ids t.1 x d) (contains_cases id ids x c)

-- an accepted revision brings no content that is not held
none_unknown : (f : List ℕ → List ℕ) (files : Table) (h : List Revision) (new : Id) (r : Spelled) → refusal_of f files h new r ≡ None → find (λ (id : Id). is_none (get files id.0)) (new_contents r.edges) ≡ None
none_unknown f files h new r accepted =
    let tree = made_tree h new r.edges in
    let paths = or_else (too_long tree) (or_else (unknown_file files r.edges) (other_manifest f tree r.manifest)) in
    let join = or_else (bad_join h new r.edges) (tree_refusal f files r tree) in
    let changes = or_else (bad_change h 1 r.edges) join in
    let a = both_none (log_full h) (or_else (unknown_parent h r.edges) changes) accepted in
    let b = both_none (unknown_parent h r.edges) changes a.1 in
    let c = both_none (bad_change h 1 r.edges) join b.1 in
    let d = both_none (bad_join h new r.edges) (tree_refusal f files r tree) c.1 in
    let e = both_none (too_many tree) paths d.1 in
    let g = both_none (too_long tree) (or_else (unknown_file files r.edges) (other_manifest f tree r.manifest)) e.1 in
    unmapped UnknownFile (find (λ (id : Id). is_none (get files id.0)) (new_contents r.edges)) (both_none (unknown_file files r.edges) (other_manifest f tree r.manifest) g.1).0

-- the text of a revision that the history accepted
record Accepted (f : List ℕ → List ℕ) (files : Table) (h : List Revision) (text : List ℕ) : Type 0 where
  place : ℕ
  logged : Logged
  revision : Revision
  next : IsNext f files (take place h) logged revision
  same : logged.text ≡ text

module _ (f : List ℕ → List ℕ) (files : Table) (log : List Logged) (h : List Revision) (is : IsHistory f files log h) where
  accepted : (id text : List ℕ) → text_under log id ≡ Some text → Accepted f files h text
  accepted id text under = by (find (λ (l : Logged). same_bytes l.id id) log) refl under
    where
      by : (o : Option Logged) → find (λ (l : Logged). same_bytes l.id id) log ≡ o → option_map (λ (l : Logged). l.text) o ≡ Some text → Accepted f files h text
      by None found e = absurd cc
      by (Some l) found e =
          let at = stands (λ (x : Logged). same_bytes x.id id) log l found in
          let v = within h at.0 (subst (λ n. at.0 < n) (sym is.long) (inside log at.0 l at.1)) in
          record { place = at.0; logged = l; revision = v.0; next = is.each at.0 l v.0 at.1 v.1; same = cc }

  -- it spells a revision
  pub text_spells : (id text : List ℕ) → text_under log id ≡ Some text → (r : Spelled) × Spells text r
  text_spells id text under = let a = accepted id text under in (a.next.read, subst (λ (t : List ℕ). Spells t a.next.read) a.same a.next.spells)

  -- whose contents are held
  pub contents_held : (id text : List ℕ) (r : Spelled) → text_under log id ≡ Some text → Spells text r → (x : Id) → Contains (new_contents r.edges) x → (bytes : List ℕ) × (get files x.0 ≡ Some bytes)
  contents_held id text r under spells x c =
      let a = accepted id text under in
      let own = subst (λ (t : List ℕ). Spells t a.next.read) a.same a.next.spells in
      let same : r ≡ a.next.read = same_revision text r a.next.read spells.stanzas own.stanzas spells.reads own.reads in
      all_held files (new_contents a.next.read.edges) (none_unknown f files (take a.place h) (id_of a.logged.id) a.next.read a.next.accepted) x (subst (λ (s : Spelled). Contains (new_contents s.edges) x) same c)

  -- a revision of the history has a text
  pub has_text : (id : Id) → IsHeld h id → (text : List ℕ) × (text_under log id.0 ≡ Some text)
  has_text id held =
      let at : IsPlaceOf h id held.0 = held.1 in
      let l = within log held.0 (subst (λ n. held.0 < n) is.long (inside h held.0 at.0 at.1)) in
      let next = is.each held.0 l.0 at.0 l.1 at.1 in
      let named : id_of l.0.id ≡ id = sym (ap (λ (x : Revision). x.id) next.made) ∙ at.2 in
      let passes : same_bytes l.0.id id.0 ≡ true = sym (ap (λ (i : Id). same_bytes l.0.id i.0) named) ∙ same_bytes-self l.0.id in
      let o = found_at (λ (x : Logged). same_bytes x.id id.0) log held.0 l.0 l.1 passes in
      (o.0.text, ap (option_map (λ (x : Logged). x.text)) o.1)
