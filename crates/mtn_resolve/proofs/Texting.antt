-- Resolutions read one behind the other.
use Rattle.std.specs.Prelude.{map, ◌||◌, drop, slice_get}
use Rattle.std.specs.List.{list_any, AllByRecursion, IsDistinct}
use Rattle.std.proofs.Common.{◌≡◌, ℕ, ◌+◌, ◌<◌, Bool, true, false, List, [], ◌∷◌, ◌++◌, length, take, get_or, append_assoc, append-nil, Some, inr, refl, sym, ◌∙◌, ap, subst, arith}
use Rattle.std.proofs.lemmas.List.{take_more, take-append-drop, length-take-le, map-append}
use Rattle.mtn_basic_io.specs.Spelling.{LineText}
use Rattle.mtn_base.proofs.Finding.{either_false}
use Rattle.mtn_base.proofs.Sorting.{long_map}
use Rattle.mtn_resolve.specs.declared.resolution.Resolution.{Resolution}
use Rattle.mtn_resolve.specs.declared.error.ResolveTextError.{ResolveTextError}
use Rattle.mtn_resolve.specs.declared.error.ResolveTextError.TheVariants.{NotText, BadStanza, BadOrder, Repeated, NoMemory}
use Rattle.mtn_resolve.specs.Subjects.{subject_of, is_about, is_repeat, AreApart}
use Rattle.mtn_resolve.specs.Texts.{stanza_of, header, IsResolution, AreResolutions, StandsAt}
use Rattle.mtn_resolve.specs.Reading.{IsNextResolution, IsRefused, IsListFault}
use Rattle.mtn_base.proofs.Dropping.{drop_step}

none_left : {X : Type 0} (f : X → Bool) (xs ys : List X) → list_any f (xs ++ ys) ≡ false → list_any f xs ≡ false
none_left f [] ys h = refl
none_left f (x ∷ xs) ys h = let p = either_false (f x) (list_any f (xs ++ ys)) h in either_both (f x) (list_any f xs) p.0 (none_left f xs ys p.1)
  where
    either_both : (a b : Bool) → a ≡ false → b ≡ false → (a || b) ≡ false
    either_both true b h g = h
    either_both false b h g = g

none_last : {X : Type 0} (f : X → Bool) (xs : List X) (x : X) → list_any f (xs ++ x ∷ []) ≡ false → f x ≡ false
none_last f [] x h = (either_false (f x) false h).0
none_last f (y ∷ xs) x h = none_last f xs x (either_false (f y) (list_any f (xs ++ x ∷ [])) h).1

pub more : (before rs : List Resolution) (r : Resolution) → AreResolutions before rs → IsResolution r → is_repeat (before ++ rs) r ≡ false → AreResolutions before (rs ++ r ∷ [])
more before [] r h is fresh = (is, subst (λ l. is_repeat l r ≡ false) (append-nil before) fresh, tt)
more before (q ∷ rs) r h is fresh = (h.0, h.1, more (before ++ q ∷ []) rs r h.2 is (subst (λ l. is_repeat l r ≡ false) (sym (append_assoc before (q ∷ []) rs)) fresh))

all_fresh : (before rs : List Resolution) → AreResolutions before rs → AllByRecursion (λ r. is_repeat before r ≡ false) rs
all_fresh before [] h = tt
all_fresh before (r ∷ rs) h = (h.1, weaker rs (all_fresh (before ++ r ∷ []) rs h.2))
  where
    weaker : (qs : List Resolution) → AllByRecursion (λ q. is_repeat (before ++ r ∷ []) q ≡ false) qs → AllByRecursion (λ q. is_repeat before q ≡ false) qs
    weaker [] g = tt
    weaker (q ∷ qs) g = (none_left (is_about (subject_of q)) before (r ∷ []) g.0, weaker qs g.1)

pub are_apart : (before rs : List Resolution) → AreResolutions before rs → AreApart rs
unfolding IsDistinct
are_apart before [] h = tt
are_apart before (r ∷ rs) h = (others rs (all_fresh (before ++ r ∷ []) rs h.2), are_apart (before ++ r ∷ []) rs h.2)
  where
    others : (qs : List Resolution) → AllByRecursion (λ q. is_repeat (before ++ r ∷ []) q ≡ false) qs → AllByRecursion (λ q. is_about (subject_of q) r ≡ false) qs
    others [] g = tt
    others (q ∷ qs) g = (none_last (is_about (subject_of q)) before r g.0, others qs g.1)

-- what was read so far
pub record SoFar (stanzas : List (List LineText)) (at : ℕ) (rs : List Resolution) : Type 0 where
  pub lawful : AreResolutions [] rs
  pub read : take at stanzas ≡ header ∷ map stanza_of rs

pub next_so_far : (ss : List (List LineText)) (at : ℕ) (s : List LineText) (rs next : List Resolution) → at < length ss → s ≡ get_or ss at s → SoFar ss at rs → IsNextResolution rs s next → SoFar ss (at + 1) next
next_so_far ss at s rs next lt is far (r, spelled, lawful, fresh, whole) =
    subst (SoFar ss (at + 1)) (sym whole) (record {
      lawful = more [] rs r far.lawful lawful fresh;
      read = take_more ss at s lt ∙ ap (λ q. take at ss ++ q ∷ []) (sym is ∙ spelled) ∙ ap (λ l. l ++ stanza_of r ∷ []) far.read ∙ ap (λ l. header ∷ l) (sym (map-append stanza_of rs (r ∷ [])));
    })

stands : (ss : List (List LineText)) (at : ℕ) (s t : List LineText) (rs : List Resolution) → at < length ss → s ≡ get_or ss at s → s ≡ t → SoFar ss at rs → StandsAt ss (at + 1) rs t
stands ss at s t rs lt is same far =
    let long : at ≡ length rs + 1 = sym (length-take-le at ss (omega (arith, lt))) ∙ ap length far.read ∙ (let l = long_map stanza_of rs in omega (arith, l)) in
    record {
      rest = drop (at + 1) ss;
      lawful = far.lawful;
      whole = sym (take-append-drop at ss) ∙ ap (λ l. l ++ drop at ss) far.read ∙ ap (λ l. header ∷ (map stanza_of rs ++ l)) (drop_step ss at s lt is ∙ ap (λ q. q ∷ drop (at + 1) ss) same);
      place = omega (arith, long);
    }

pub refused : (ss : List (List LineText)) (at : ℕ) (s : List LineText) (rs : List Resolution) (e : ResolveTextError) → at < length ss → s ≡ get_or ss at s → SoFar ss at rs → IsRefused rs s (at + 1) e → IsListFault ss e
refused ss at s rs (NotText offset) lt is far h = absurd h
refused ss at s rs (BadStanza n) lt is far h = inr (rs, s, subst (λ k. StandsAt ss k rs s) (sym h.0) (stands ss at s s rs lt is refl far), h.1)
refused ss at s rs (BadOrder n) lt is far h = inr (rs, subst (λ k. StandsAt ss k rs header) (sym h.0) (stands ss at s header rs lt is h.1 far))
refused ss at s rs (Repeated n) lt is far h =
    inr (rs, h.1.0, subst (λ k. StandsAt ss k rs (stanza_of h.1.0)) (sym h.0) (stands ss at s (stanza_of h.1.0) rs lt is h.1.2 far), h.1.1, h.1.3)
refused ss at s rs NoMemory lt is far h = tt

-- the header alone
pub header_alone : (ss : List (List LineText)) (s : List LineText) → slice_get ss 0 ≡ Some s → s ≡ header → SoFar ss 1 []
header_alone [] s e h = absurd cc
header_alone (t ∷ ss) s e h = record { lawful = tt; read = (let d : t ≡ s = cc in λ i. (d ∙ h) i ∷ []) }
