-- Key names read one behind the other.
use Rattle.std.specs.Prelude.{map, ◌||◌, drop, slice_get}
use Rattle.std.specs.List.{list_any, AllByRecursion, IsDistinct}
use Rattle.std.proofs.Common.{◌≡◌, ℕ, ◌+◌, ◌<◌, Bool, true, false, List, [], ◌∷◌, ◌++◌, length, take, get_or, append_assoc, append-nil, Some, inr, refl, sym, ◌∙◌, ap, subst, arith}
use Rattle.std.proofs.lemmas.List.{take_more, take-append-drop, length-take-le, map-append}
use Rattle.mtn_basic_io.specs.Spelling.{LineText}
use Rattle.mtn_base.proofs.Finding.{either_false}
use Rattle.mtn_base.proofs.Sorting.{long_map}
use Rattle.mtn_base.proofs.Dropping.{drop_step}
use Rattle.mtn_certs.specs.declared.cert.KeyName.{KeyName}
use Rattle.mtn_certs.specs.declared.key_error.KeyTextError.{KeyTextError}
use Rattle.mtn_certs.specs.declared.key_error.KeyTextError.TheVariants.{NotText, BadStanza, BadOrder, Repeated, NoMemory}
use Rattle.mtn_certs.specs.KeyTables.{stanza_of, header, has_id_of, has_name_of, is_repeat, IsKeyName, AreKeyNames, IsKeyTable, StandsAt}
use Rattle.mtn_certs.specs.ReadingTables.{IsNextKeyName, IsRefused, IsListFault}

none_left : {X : Type 0} (f : X → Bool) (xs ys : List X) → list_any f (xs ++ ys) ≡ false → list_any f xs ≡ false
none_left f [] ys h = refl
none_left f (x ∷ xs) ys h = let p = either_false (f x) (list_any f (xs ++ ys)) h in either_both (f x) (list_any f xs) p.0 (none_left f xs ys p.1)
  where
    either_both : (a b : Bool) → a ≡ false → b ≡ false → (a || b) ≡ false
    either_both true b h g = h
    either_both false b h g = g

none_last : {X : Type 0} (f : X → Bool) (xs : List X) (x : X) → list_any f (xs ++ x ∷ []) ≡ false → f x ≡ false
none_last f [] x h = (either_false (f x) false h).0
none_last f (y ∷ xs) x h = none_last f xs x (either_false (f y) (list_any f (xs ++ x ∷ [])) h).1

pub more : (before keys : List KeyName) (k : KeyName) → AreKeyNames before keys → IsKeyName k → is_repeat (before ++ keys) k ≡ false → AreKeyNames before (keys ++ k ∷ [])
more before [] k h is fresh = (is, subst (λ l. is_repeat l k ≡ false) (append-nil before) fresh, tt)
more before (q ∷ keys) k h is fresh = (h.0, h.1, more (before ++ q ∷ []) keys k h.2 is (subst (λ l. is_repeat l k ≡ false) (sym (append_assoc before (q ∷ []) keys)) fresh))

-- a test of two key names that fails at all of these behind those
abbrev AreFresh : (KeyName → KeyName → Bool) → (before keys : List KeyName) → Type 0
AreFresh like before keys = AllByRecursion (λ k. list_any (like k) before ≡ false) keys

-- each has failed it at those before it
abbrev AreApart : (KeyName → KeyName → Bool) → (before keys : List KeyName) → Type 0
AreApart like before [] = Unit {0}
AreApart like before (k ∷ keys) = (list_any (like k) before ≡ false) × AreApart like (before ++ k ∷ []) keys

all_fresh : (like : KeyName → KeyName → Bool) (before keys : List KeyName) → AreApart like before keys → AreFresh like before keys
all_fresh like before [] h = tt
all_fresh like before (k ∷ keys) h = (h.0, weaker keys (all_fresh like (before ++ k ∷ []) keys h.1))
  where
    weaker : (qs : List KeyName) → AreFresh like (before ++ k ∷ []) qs → AreFresh like before qs
    weaker [] g = tt
    weaker (q ∷ qs) g = (none_left (like q) before (k ∷ []) g.0, weaker qs g.1)

distinct : (like : KeyName → KeyName → Bool) (before keys : List KeyName) → AreApart like before keys → IsDistinct (λ (q k : KeyName). like k q) keys
unfolding IsDistinct
distinct like before [] h = tt
distinct like before (k ∷ keys) h = (others keys (all_fresh like (before ++ k ∷ []) keys h.1), distinct like (before ++ k ∷ []) keys h.1)
  where
    others : (qs : List KeyName) → AreFresh like (before ++ k ∷ []) qs → AllByRecursion (λ q. like q k ≡ false) qs
    others [] g = tt
    others (q ∷ qs) g = (none_last (like q) before k g.0, others qs g.1)

ids_apart : (before keys : List KeyName) → AreKeyNames before keys → AreApart has_id_of before keys
ids_apart before [] h = tt
ids_apart before (k ∷ keys) h = ((either_false (list_any (has_id_of k) before) (list_any (has_name_of k) before) h.1).0, ids_apart (before ++ k ∷ []) keys h.2)

names_apart : (before keys : List KeyName) → AreKeyNames before keys → AreApart has_name_of before keys
names_apart before [] h = tt
names_apart before (k ∷ keys) h = ((either_false (list_any (has_id_of k) before) (list_any (has_name_of k) before) h.1).1, names_apart (before ++ k ∷ []) keys h.2)

all_fields : (before keys : List KeyName) → AreKeyNames before keys → AllByRecursion IsKeyName keys
all_fields before [] h = tt
all_fields before (k ∷ keys) h = (h.0, all_fields (before ++ k ∷ []) keys h.2)

pub is_table : (keys : List KeyName) → AreKeyNames [] keys → IsKeyTable keys
is_table keys h = record {
  fields = all_fields [] keys h;
  ids = distinct has_id_of [] keys (ids_apart [] keys h);
  names = distinct has_name_of [] keys (names_apart [] keys h);
}

-- what was read so far
pub record SoFar (stanzas : List (List LineText)) (at : ℕ) (keys : List KeyName) : Type 0 where
  pub lawful : AreKeyNames [] keys
  pub read : take at stanzas ≡ header ∷ map stanza_of keys

pub next_so_far : (ss : List (List LineText)) (at : ℕ) (s : List LineText) (keys next : List KeyName) → at < length ss → s ≡ get_or ss at s → SoFar ss at keys → IsNextKeyName keys s next → SoFar ss (at + 1) next
next_so_far ss at s keys next lt is far (k, spelled, lawful, fresh, whole) =
    subst (SoFar ss (at + 1)) (sym whole) (record {
      lawful = more [] keys k far.lawful lawful fresh;
      read = take_more ss at s lt ∙ ap (λ q. take at ss ++ q ∷ []) (sym is ∙ spelled) ∙ ap (λ l. l ++ stanza_of k ∷ []) far.read ∙ ap (λ l. header ∷ l) (sym (map-append stanza_of keys (k ∷ [])));
    })

stands : (ss : List (List LineText)) (at : ℕ) (s t : List LineText) (keys : List KeyName) → at < length ss → s ≡ get_or ss at s → s ≡ t → SoFar ss at keys → StandsAt ss (at + 1) keys t
stands ss at s t keys lt is same far =
    let long : at ≡ length keys + 1 = sym (length-take-le at ss (omega (arith, lt))) ∙ ap length far.read ∙ (let l = long_map stanza_of keys in omega (arith, l)) in
    record {
      rest = drop (at + 1) ss;
      lawful = far.lawful;
      whole = sym (take-append-drop at ss) ∙ ap (λ l. l ++ drop at ss) far.read ∙ ap (λ l. header ∷ (map stanza_of keys ++ l)) (drop_step ss at s lt is ∙ ap (λ q. q ∷ drop (at + 1) ss) same);
      place = omega (arith, long);
    }

pub refused : (ss : List (List LineText)) (at : ℕ) (s : List LineText) (keys : List KeyName) (e : KeyTextError) → at < length ss → s ≡ get_or ss at s → SoFar ss at keys → IsRefused keys s (at + 1) e → IsListFault ss e
refused ss at s keys (NotText offset) lt is far h = absurd h
refused ss at s keys (BadStanza n) lt is far h = inr (keys, s, subst (λ k. StandsAt ss k keys s) (sym h.0) (stands ss at s s keys lt is refl far), h.1)
refused ss at s keys (BadOrder n) lt is far h = inr (keys, subst (λ k. StandsAt ss k keys header) (sym h.0) (stands ss at s header keys lt is h.1 far))
refused ss at s keys (Repeated n) lt is far h =
    inr (keys, h.1.0, subst (λ k. StandsAt ss k keys (stanza_of h.1.0)) (sym h.0) (stands ss at s (stanza_of h.1.0) keys lt is h.1.2 far), h.1.1, h.1.3)
refused ss at s keys NoMemory lt is far h = tt

-- the header alone
pub header_alone : (ss : List (List LineText)) (s : List LineText) → slice_get ss 0 ≡ Some s → s ≡ header → SoFar ss 1 []
header_alone [] s e h = absurd cc
header_alone (t ∷ ss) s e h = record { lawful = tt; read = (let d : t ≡ s = cc in λ i. (d ∙ h) i ∷ []) }
