-- What is accepted leads to a lawful state.
use Rattle.std.specs.Prelude.{bytes_eq, find, nat_lt, option_map}
use Rattle.std.specs.Cmp.Lexicographic.{bytes_decides}
use Rattle.std.specs.FinMap.{get, insert}
use Rattle.std.proofs.Common.{◌≡◌, ◌≤◌, ◌<◌, ℕ, Bool, true, false, cond, List, length, Option, Some, None, refl, sym, ap, ◌∙◌, subst, inl, inr, arith}
use Rattle.std.proofs.lemmas.Bool.Decides.{nat_tests}
use Rattle.std.proofs.lemmas.Slice.Eq.{bytes_eq-Decides}
use Rattle.mtn_base.specs.Hex.{id_of}
use Rattle.mtn_base.specs.Names.{same_bytes}
use Rattle.mtn_base.specs.declared.id.Id.{Id}
use Rattle.mtn_base.specs.declared.refusal.Cause.{Cause}
use Rattle.mtn_base.specs.declared.refusal.Cause.TheVariants.{Collision, TextTooLong}
use Rattle.mtn_base.proofs.Tests.{same_id-is}
use Rattle.mtn_changes.specs.declared.change.Revision.{Revision as Spelled}
use Rattle.mtn_history_laws.specs.History.{Revision}
use Rattle.mtn_model.specs.State.{Logged, State}
use Rattle.mtn_model.specs.Table.{Table}
use Rattle.mtn_renaming.proofs.Elements.{contains_at, none_passes}
use Rattle.mtn_replay.specs.Accepting.{Decides, logged_beside, refusal_beside}
use Rattle.mtn_replay.specs.Files.{collision, file_refusal, with_file}
use Rattle.mtn_replay.specs.Lawful.{IsHistory, IsLawful, IsNext, Spells}
use Rattle.mtn_replay.specs.Making.{made, place_of, refusal_of}
use Rattle.mtn_replay.specs.Texts.{text_under}
use Rattle.mtn_replay.proofs.CertLemmas.{lawful_text}
use Rattle.mtn_replay.proofs.FileLemmas.{insert_held, lawful_more}
use Rattle.mtn_replay.proofs.Places.{place_has, place_within, within}

-- ---- files

equal_bytes : (held bytes : List ℕ) (cause : Cause) (t : Bool) → bytes_eq held bytes ≡ t → cond t None (Some cause) ≡ None → held ≡ bytes
equal_bytes held bytes cause true same e = (bytes_eq-Decides held bytes).0 same
equal_bytes held bytes cause false same e = absurd cc

lawful_held : (f : List ℕ → List ℕ) (s : State) (bytes : List ℕ) → IsLawful f s → (o : Option (List ℕ)) → get s.files (f bytes) ≡ o → collision o (f bytes) bytes ≡ None → length bytes ≤ 67108864 → IsLawful f (with_file f s bytes)
lawful_held f s bytes law None none fine small = lawful_more f s bytes law none small
lawful_held f s bytes law (Some held) some fine small =
    let same = insert_held s.files (f bytes) bytes (some ∙ ap Some (equal_bytes held bytes (Collision (id_of (f bytes))) (bytes_eq held bytes) refl fine)) in
    let back : s.files ≡ insert s.files (f bytes) bytes = sym same in
    subst (IsLawful f) (λ i. record s { files = back i }) law

-- a file that is not refused leads to a lawful state
pub lawful_file : (f : List ℕ → List ℕ) (s : State) (bytes : List ℕ) → IsLawful f s → file_refusal f s bytes ≡ None → IsLawful f (with_file f s bytes)
lawful_file f s bytes law fine = by (nat_lt 67108864 (length bytes)) refl fine
  where
    by : (t : Bool) → nat_lt 67108864 (length bytes) ≡ t → cond t (Some (TextTooLong (length bytes))) (collision (get s.files (f bytes)) (f bytes) bytes) ≡ None → IsLawful f (with_file f s bytes)
    by true long e = absurd cc
    by false short e =
        let small : length bytes ≤ 67108864 = grind (arith, nat_tests) in
        lawful_held f s bytes law (get s.files (f bytes)) refl e small

-- ---- texts

abbrev pub is_under : List ℕ → Logged → Bool
is_under id l = same_bytes l.id id

pub under : (id : List ℕ) (l : Logged) → is_under id l ≡ true → l.id ≡ id
under id l t = ap (λ (i : Id). i.0) (same_id-is (id_of l.id) (id_of id) t)

unmapped : {A B : Type 0} (g : A → B) (x : Option A) → option_map g x ≡ None → x ≡ None
unmapped g None h = refl
unmapped g (Some a) h = absurd cc

pub same_self : (a : List ℕ) → same_bytes a a ≡ true
same_self a = (bytes_decides a a).1 refl

-- an id without a text has no place
pub text_none : (f : List ℕ → List ℕ) (files : Table) (log : List Logged) (h : List Revision) (id : Id) → IsHistory f files log h → text_under log id.0 ≡ None → place_of h id ≡ None
text_none f files log h id is none = by (place_of h id) refl
  where
    by : (o : Option ℕ) → place_of h id ≡ o → o ≡ None
    by None e = refl
    by (Some p) e =
        let v = place_has h id p e in
        let l = within log p (subst (λ n. p < n) is.long (place_within h id p e)) in
        let named : id_of l.0.id ≡ id = sym (ap (λ (x : Revision). x.id) (is.each p l.0 v.0 l.1 v.1).made) ∙ v.2 in
        let test : same_bytes l.0.id id.0 ≡ false = none_passes (is_under id.0) log l.0 (unmapped (λ (x : Logged). x.text) (find (is_under id.0) log) none) (contains_at log p l.0 l.1) in
        absurd (let t : true ≡ false = sym (same_self l.0.id) ∙ ap (λ (i : Id). same_bytes l.0.id i.0) named ∙ test in cc)

-- the text as it is logged
abbrev pub logged : (List ℕ → List ℕ) → List ℕ → Logged
logged f text = record { id = f text; text = text }

-- a new text that is not refused is the next of the log
pub next_of : (f : List ℕ → List ℕ) (s : State) (h : List Revision) (text : List ℕ) (r : Spelled) → IsHistory f s.files s.log h → length text ≤ 67108864 → Spells text r →
    text_under s.log (f text) ≡ None → refusal_of f s.files h (id_of (f text)) r ≡ None → IsNext f s.files h (logged f text) (made h (id_of (f text)) r.edges)
next_of f s h text r is short spells none fine = record {
  short = short;
  id = refl;
  fresh = text_none f s.files s.log h (id_of (f text)) is none;
  read = r;
  spells = spells;
  accepted = fine;
  made = refl;
}

pub refused_already : (r : Option Cause) (c : Cause) → r ≡ Some c → r ≡ None → ⊥
refused_already r c some none = let both : Some c ≡ None = sym some ∙ none in cc

-- a text that is not refused leads to a lawful state
pub lawful_decided : (f : List ℕ → List ℕ) (s : State) (text : List ℕ) (refusal : Option Cause) (after : State) → IsLawful f s → Decides f s text refusal after → refusal ≡ None → IsLawful f after
lawful_decided f s text refusal after law (inl long) none = absurd (refused_already refusal (TextTooLong (length text)) long.is none)
lawful_decided f s text refusal after law (inr (inl unread)) none = absurd (refused_already refusal unread.cause unread.is none)
lawful_decided f s text refusal after law (inr (inr d)) none = subst (IsLawful f) (sym d.after) (by (text_under s.log (f text)) refl (sym d.is ∙ none))
  where
    by : (o : Option (List ℕ)) → text_under s.log (f text) ≡ o → refusal_beside o f s.files d.history text d.read ≡ None → IsLawful f (logged_beside o f s text)
    by (Some held) e fine = law
    by None e fine = lawful_text f s d.history (logged f text) (made d.history (id_of (f text)) d.read.edges) law d.spelled (next_of f s d.history text d.read d.spelled d.short d.spells e fine)
