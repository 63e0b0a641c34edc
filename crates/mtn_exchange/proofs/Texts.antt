-- The texts of a log under their ids.
use Rattle.std.specs.Prelude.{Contains, find, option_map, slice_get}
use Rattle.std.specs.Option.{option_or}
use Rattle.std.proofs.Common.{◌≡◌, ◌≤◌, ◌<◌, ℕ, Bool, true, false, cond, List, [], ◌∷◌, ◌++◌, length, Option, Some, None, refl, sym, ap, ◌∙◌, subst}
use Rattle.std.proofs.lemmas.List.Folds.{find-append}
use Rattle.mtn_base.specs.Hex.{id_of}
use Rattle.mtn_base.specs.Names.{same_bytes}
use Rattle.mtn_base.specs.declared.id.Id.{Id}
use Rattle.mtn_base.proofs.Tests.{same_bytes-is, same_bytes-self}
use Rattle.mtn_changes.specs.declared.change.Revision.{Revision as Spelled}
use Rattle.mtn_history_laws.specs.History.{Revision}
use Rattle.mtn_model.specs.State.{Logged, State}
use Rattle.mtn_model.specs.Table.{Table}
use Rattle.mtn_renaming.proofs.Elements.{at_contains, contains_at, found_at, none_passes}
use Rattle.mtn_renaming.proofs.Spelling.{ids_differ, named, revision_at}
use Rattle.mtn_replay.specs.Lawful.{IsHistory, IsNext, Spells}
use Rattle.mtn_replay.specs.Making.{made, place_of, refusal_of}
use Rattle.mtn_replay.specs.Texts.{text_under}
use Rattle.mtn_replay.proofs.Places.{place_has, place_within, within}
use Rattle.mtn_replay.proofs.Steps.{unmapped}

-- a revision as it is logged
abbrev pub logged : List ℕ → List ℕ → Logged
logged id text = record { id = id; text = text }

abbrev is_under : List ℕ → Logged → Bool
is_under id l = same_bytes l.id id

-- the log holds what it has under an id
pub text_from : (log : List Logged) (id text : List ℕ) → text_under log id ≡ Some text → Contains log (logged id text)
text_from log id text under = by (find (is_under id) log) refl under
  where
    by : (o : Option Logged) → find (is_under id) log ≡ o → option_map (λ (l : Logged). l.text) o ≡ Some text → Contains log (logged id text)
    by None none e = absurd cc
    by (Some l) some e =
        let x = found_at (is_under id) log l some in
        let name : l.id ≡ id = same_bytes-is l.id id x.1 in
        let words : l.text ≡ text = cc in
        let same : l ≡ logged id text = λ i. record { id = name i; text = words i } in
        subst (Contains log) same x.0

test_differs : (a b : List ℕ) (t : Bool) → same_bytes a b ≡ t → (a ≡ b → ⊥) → t ≡ false
test_differs a b true e differ = absurd (differ (same_bytes-is a b e))
test_differs a b false e differ = refl

or_none : {X : Type 0} (o : Option X) → option_or o None ≡ o
or_none None = refl
or_none (Some x) = refl

-- under another id the log has what it had
pub text_beside : (log : List Logged) (l : Logged) (id : List ℕ) → (l.id ≡ id → ⊥) → text_under (log ++ l ∷ []) id ≡ text_under log id
text_beside log l id differ = ap (option_map (λ (x : Logged). x.text))
    (find-append (is_under id) log (l ∷ []) ∙ ap (λ b. option_or (find (is_under id) log) (cond b (Some l) None)) (test_differs l.id id (same_bytes l.id id) refl differ) ∙ or_none (find (is_under id) log))

module _ (f : List ℕ → List ℕ) (files : Table) (log : List Logged) (h : List Revision) (is : IsHistory f files log h) where
  -- two texts of a log under one id are one
  one_text : (l m : Logged) → Contains log l → Contains log m → l.id ≡ m.id → l ≡ m
  one_text l m c d same =
      let j = at_contains log l c in
      let k = at_contains log m d in
      let v = revision_at f files log h is j.0 l j.1 in
      let w = revision_at f files log h is k.0 m k.1 in
      let place : j.0 ≡ k.0 = ids_differ f files log h is (id_of l.id) j.0 k.0 (v.0, v.1, named f files _ l v.0 v.2) (w.0, w.1, named f files _ m w.0 w.2 ∙ ap id_of (sym same)) in
      let both : Some l ≡ Some m = sym j.1 ∙ ap (slice_get log) place ∙ k.1 in
      cc

  -- what the log holds it has under its id
  pub text_of : (l : Logged) → Contains log l → text_under log l.id ≡ Some l.text
  text_of l c = by (find (is_under l.id) log) refl
    where
      by : (o : Option Logged) → find (is_under l.id) log ≡ o → text_under log l.id ≡ Some l.text
      by None none = absurd (let t : true ≡ false = sym (same_bytes-self l.id) ∙ none_passes (is_under l.id) log l none c in cc)
      by (Some m) some =
          let x = found_at (is_under l.id) log m some in
          let same : m ≡ l = one_text m l x.0 c (same_bytes-is m.id l.id x.1) in
          ap (option_map (λ (k : Logged). k.text)) some ∙ ap (λ (k : Logged). Some k.text) same

  -- the ident gives each text its id
  pub text_named : (id text : List ℕ) → text_under log id ≡ Some text → f text ≡ id
  text_named id text under =
      let k = at_contains log (logged id text) (text_from log id text under) in
      let v = revision_at f files log h is k.0 (logged id text) k.1 in
      v.2.id

  -- an id without a text has no place
  pub text_none : (id : Id) → text_under log id.0 ≡ None → place_of h id ≡ None
  text_none id none = by (place_of h id) refl
    where
      by : (o : Option ℕ) → place_of h id ≡ o → o ≡ None
      by None e = refl
      by (Some p) e =
          let v = place_has h id p e in
          let l = within log p (subst (λ n. p < n) is.long (place_within h id p e)) in
          let name : id_of l.0.id ≡ id = sym (named f files _ l.0 v.0 (is.each p l.0 v.0 l.1 v.1)) ∙ v.2 in
          let test : same_bytes l.0.id id.0 ≡ false = none_passes (is_under id.0) log l.0 (unmapped (λ (x : Logged). x.text) (find (is_under id.0) log) none) (contains_at log p l.0 l.1) in
          absurd (let t : true ≡ false = sym (same_bytes-self l.0.id) ∙ ap (λ (i : Id). same_bytes l.0.id i.0) name ∙ test in cc)

-- a new text that is not refused is the next of the log
pub next_of : (f : List ℕ → List ℕ) (s : State) (h : List Revision) (text : List ℕ) (r : Spelled) → IsHistory f s.files s.log h → length text ≤ 67108864 → Spells text r →
    text_under s.log (f text) ≡ None → refusal_of f s.files h (id_of (f text)) r ≡ None → IsNext f s.files h (logged (f text) text) (made h (id_of (f text)) r.edges)
next_of f s h text r is short spells none fine = record {
  short = short;
  id = refl;
  fresh = text_none f s.files s.log h is (id_of (f text)) none;
  read = r;
  spells = spells;
  accepted = fine;
  made = refl;
}
