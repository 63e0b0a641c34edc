-- Words read one by one.
use Rattle.std.proofs.Common.{◌≡◌, ◌||◌, ◌<◌, ◌≤◌, ◌+◌, ◌-◌, zero, suc, ℕ, Bool, true, false, not, List, [], ◌∷◌, ◌++◌, map, drop, get_or, length, Option, Some, None, Result, Ok, Err, Bor, refl, sym, ap, ◌∙◌, subst, append_assoc, arith}
use Rattle.std.specs.Prelude.{bytes_eq, option_map, is_ok, MatchResult, ◌&&◌, cond, if◌then◌else◌}
use Rattle.std.specs.List.{list_any, list_all, prefix_len, take_while}
use Rattle.std.specs.Str.{IsUtf8, is_utf8}
use Rattle.std.specs.Ordering.{nat_cmp}
use Rattle.std.specs.declared.cmp.Ordering.{Ordering}
use Rattle.std.specs.Cmp.Lexicographic.{slice_cmp}
use Rattle.std.specs.BTreeSet.{BTreeSet, contains, Updates}
use Rattle.std.proofs.lemmas.Str.{IsUtf8-from_is_utf8, is_utf8-from_IsUtf8}
use Rattle.std.proofs.lemmas.Bool.{false_from_ne_true, not-false}
use Rattle.std.proofs.Math.Seq.{drop-cons}
use Rattle.std.specs.Option.{option_and_then}
use Rattle.std.proofs.lemmas.Map.Text.{is_eq-slice_cmp}
use Rattle.mtn_words.specs.Words.{each_of, option_of, are_apart, is_option, positionals_of, command_of, command_with}
use Rattle.mtn_words.specs.declared.words.Command.{Command}
use Rattle.mtn_words.specs.declared.words.OptionWord.{OptionWord}

-- what `from_utf8` tells of a text
pub told_utf8 : {T E : Type 0} (P : T → Type 0) (Q : E → Type 0) (bs : List ℕ) (r : Result T E) → MatchResult r (λ s. P s × IsUtf8 bs) (λ e. (IsUtf8 bs → ⊥) × Q e) → is_ok r ≡ is_utf8 bs
told_utf8 P Q bs (Ok s) told = sym (is_utf8-from_IsUtf8 bs told.1)
told_utf8 P Q bs (Err e) told = sym (false_from_ne_true (is_utf8 bs) (λ yes. told.0 (IsUtf8-from_is_utf8 bs yes)))

-- what was read stands before what is left
abbrev pub with_front : {T : Type 0} → List T → Option (List T) → Option (List T)
with_front front = option_map (λ rest. front ++ rest)

one_more : {T : Type 0} (front : List T) (x : T) (o : Option (List T)) → with_front front (option_map (λ rest. x ∷ rest) o) ≡ with_front (front ++ x ∷ []) o
one_more front x None = refl
one_more front x (Some rest) = ap Some (sym (append_assoc front (x ∷ []) rest))

-- one word more is read
pub read_one : {T : Type 0} (read : List ℕ → Option T) (front new : List T) (words : List (List ℕ)) (i : ℕ) (w : List ℕ) (x : T) → i < length words → w ≡ get_or words i w → read w ≡ Some x → new ≡ front ++ x ∷ [] →
    each_of read words ≡ with_front front (each_of read (drop i words)) → each_of read words ≡ with_front new (each_of read (drop (i + 1) words))
read_one read front new words i w x inside item reads is so_far =
    let rest = drop (suc i) words in
    let here : drop i words ≡ w ∷ rest = drop-cons words i w inside ∙ ap (λ y. y ∷ rest) (sym item) in
    let this : each_of read (w ∷ rest) ≡ option_map (λ values. x ∷ values) (each_of read rest) = ap (option_and_then (λ value. option_map (λ values. value ∷ values) (each_of read rest))) reads in
    let next : suc i ≡ i + 1 = omega arith in
    so_far ∙ ap (λ ws. with_front front (each_of read ws)) here ∙ ap (with_front front) this ∙ one_more front x (each_of read rest)
    ∙ ap (λ values. with_front values (each_of read rest)) (sym is) ∙ ap (λ n. with_front new (each_of read (drop n words))) next

-- the names that a set has, of options that differ
abbrev by_text : Bor (List ℕ) → Bor (List ℕ) → Ordering
by_text x y = slice_cmp nat_cmp x.now y.now

pub record Seen (names : BTreeSet (Bor (List ℕ))) (all : List (List ℕ)) : Type 0 where
  pub apart : are_apart all ≡ true
  pub has : (q : Bor (List ℕ)) → contains by_text names q ≡ list_any (λ other. bytes_eq other q.now) all

or_cond : (b x : Bool) → cond b true x ≡ (b || x)
or_cond true x = refl
or_cond false x = refl

and_false : (b : Bool) → (b && false) ≡ false
and_false true = refl
and_false false = refl

-- a name that no option behind has
pub seen_more : (names new : BTreeSet (Bor (List ℕ))) (behind : List (List ℕ)) (key : Bor (List ℕ)) (fresh : Bool) → Seen names behind → fresh ≡ not (contains by_text names key) → fresh ≡ true → Updates by_text names new key true →
    Seen new (key.now ∷ behind)
seen_more names new behind key fresh seen is new_one updates = record {
  apart =
      let none : list_any (λ other. bytes_eq other key.now) behind ≡ false = sym (seen.has key) ∙ not_true (contains by_text names key) (sym is ∙ new_one) in
      ap (λ b. not b && are_apart behind) none ∙ seen.apart;
  has = λ q. updates.0 q ∙ ap (λ b. cond b true (contains by_text names q)) (is_eq-slice_cmp key.now q.now) ∙ or_cond (bytes_eq key.now q.now) (contains by_text names q) ∙ ap (λ b. bytes_eq key.now q.now || b) (seen.has q);
}
  where
    not_true : (b : Bool) → not b ≡ true → b ≡ false
    not_true true e = cc
    not_true false e = refl

-- a name that an option behind has
pub seen_twice : (names : BTreeSet (Bor (List ℕ))) (behind : List (List ℕ)) (key : Bor (List ℕ)) (fresh : Bool) → Seen names behind → fresh ≡ not (contains by_text names key) → fresh ≡ false →
    are_apart (key.now ∷ behind) ≡ false
seen_twice names behind key fresh seen is old_one =
    let one : list_any (λ other. bytes_eq other key.now) behind ≡ true = sym (seen.has key) ∙ not-false (contains by_text names key) (sym is ∙ old_one) in
    ap (λ b. not b && are_apart behind) one

abbrev pub names_of : List OptionWord → List (List ℕ)
names_of options = map (λ o. o.name) options

-- options of which some behind do not differ
pub apart_behind : (k : ℕ) (options : List OptionWord) → are_apart (names_of (drop k options)) ≡ false → are_apart (names_of options) ≡ false
apart_behind zero options twice = twice
apart_behind (suc k) [] twice = twice
apart_behind (suc k) (option ∷ rest) twice =
    ap (λ b. not (list_any (λ other. bytes_eq other option.name) (names_of rest)) && b) (apart_behind k rest twice) ∙ and_false (not (list_any (λ other. bytes_eq other option.name) (names_of rest)))

-- one option more, from behind
pub names_from : (options : List OptionWord) (left : ℕ) (d : OptionWord) → 0 < left → left ≤ length options →
    names_of (drop (left - 1) options) ≡ (get_or options (left - 1) d).name ∷ names_of (drop left options)
names_from options left d some inside =
    let before : left - 1 < length options = omega arith in
    let next : suc (left - 1) ≡ left = omega arith in
    ap names_of (drop-cons options (left - 1) d before ∙ ap (λ n. get_or options (left - 1) d ∷ drop n options) next)

-- a command has the name that was read, and its words are texts
named : (name : List ℕ) (positionals : List (List ℕ)) (texts : Bool) (options : Option (List OptionWord)) (c : Command) →
    (if texts then option_and_then (command_with name positionals) options else None) ≡ Some c → (texts ≡ true) × (name ≡ c.name)
named name positionals false options c is = cc
named name positionals true None c is = cc
named name positionals true (Some options) c is = (refl, made (are_apart (names_of options)) is)
  where
    made : (apart : Bool) → (if apart then Some (record { name = name; options = options; positionals = positionals }) else None) ≡ Some c → name ≡ c.name
    made true e = let same : record { name = name; options = options; positionals = positionals } ≡ c = cc in ap (λ (x : Command). x.name) same
    made false e = cc

first_true : (a b : Bool) → (a && b) ≡ true → a ≡ true
first_true true b e = refl
first_true false b e = e

-- the name of a command is a text
pub name_is_utf8 : (words : List (List ℕ)) (c : Command) → command_of words ≡ Some c → IsUtf8 c.name
name_is_utf8 [] c is = cc
name_is_utf8 (name ∷ rest) c is =
    let has = named name (positionals_of (drop (prefix_len is_option rest) rest)) (list_all is_utf8 (name ∷ rest)) (each_of option_of (take_while is_option rest)) c is in
    subst IsUtf8 has.1 (IsUtf8-from_is_utf8 name (first_true (is_utf8 name) (list_all is_utf8 rest) has.0))
