use Rattle.std.proofs.Common.{◌≡◌, ◌∙◌, ◌||◌, sym, ap, map, bytes_eq, refl, List, [], ◌∷◌, ℕ, Bor, Bool, true, false, Option, Some, None}
use Rattle.std.specs.Prelude.{is_none, is_some, not, if◌then◌else◌}
use Rattle.std.specs.List.{list_any}
use Rattle.mtn_words.proofs.options.is_taken.Goals as goal

-- a name among texts
among : (name : List ℕ) (texts : List (Bor (List ℕ))) → list_any (λ other. bytes_eq name other.now) texts ≡ list_any (bytes_eq name) (map (λ s. s.now) texts)
among name [] = refl
among name (s ∷ rest) = ap (λ b. bytes_eq name s.now || b) (among name rest)

among_of : (name other : List ℕ) (texts : List (Bor (List ℕ))) (b : Bool) → b ≡ list_any (λ other. bytes_eq name other.now) texts → name ≡ other → b ≡ list_any (bytes_eq other) (map (λ s. s.now) texts)
among_of name other texts b is same = is ∙ among name texts ∙ ap (λ n. list_any (bytes_eq n) (map (λ s. s.now) texts)) same

no_value : (v : Option (List ℕ)) → is_some v ≡ false → is_none v ≡ true
no_value None e = refl
no_value (Some x) e = absurd cc

a_value : (v : Option (List ℕ)) → is_some v ≡ true → is_none v ≡ false
a_value None e = absurd cc
a_value (Some x) e = refl

abbrev texts : List (Bor (List ℕ)) → List (List ℕ)
texts = map (λ s. s.now)

pub returns-then-is_none : goal.returns-then-is_none
returns-then-is_none c =
    among_of c.as_slice.result.now c.args.option.now.name c.args.flags.now c.is_among.result c.is_among.ensures c.as_slice.ensures
    ∙ ap (λ b. list_any (bytes_eq c.args.option.now.name) (if b then texts c.args.flags.now else texts c.args.names.now)) (sym (no_value c.args.option.now.value (c.is_none.ensures ∙ ap not c.if-is_none.true)))

pub returns-else-is_none : goal.returns-else-is_none
returns-else-is_none c =
    among_of c.as_slice-else-is_none.result.now c.args.option.now.name c.args.names.now c.is_among-else-is_none.result c.is_among-else-is_none.ensures c.as_slice-else-is_none.ensures
    ∙ ap (λ b. list_any (bytes_eq c.args.option.now.name) (if b then texts c.args.flags.now else texts c.args.names.now)) (sym (a_value c.args.option.now.value (c.is_none.ensures ∙ ap not c.if-is_none.false)))
