-- The key name that a stanza may spell.
use Rattle.std.proofs.Common.{◌≡◌, ℕ, List, [], ◌∷◌, Option, Some, None, refl, sym, ap, ◌∙◌}
use Rattle.std.specs.Option.{option_map}
use Rattle.std.proofs.lemmas.Option.{same_Some}
use Rattle.mtn_base.specs.declared.id.Id.{Id}
use Rattle.mtn_basic_io.specs.declared.stanza.Value.{Value}
use Rattle.mtn_basic_io.specs.declared.stanza.Value.TheVariants.{Text, Hex}
use Rattle.mtn_basic_io.specs.Spelling.{LineText}
use Rattle.mtn_certs.specs.declared.cert.KeyName.{KeyName}
use Rattle.mtn_certs.specs.KeyTables.{stanza_of, header}

abbrev text_in : List Value → List ℕ
text_in (Text t ∷ vs) = t
text_in _ = []

abbrev id_in : List Value → Option Id
id_in (Hex id ∷ vs) = id
id_in _ = None

-- an id and a name, in two lines
abbrev pub key_in : List LineText → Option KeyName
key_in (a ∷ b ∷ ls) = option_map (λ (id : Id). record { id = id; name = text_in b.values }) (id_in a.values)
key_in _ = None

pub back : (k : KeyName) → key_in (stanza_of k) ≡ Some k
back k = refl

-- a stanza spells one key name
pub one_key : (q k : KeyName) → stanza_of q ≡ stanza_of k → q ≡ k
one_key q k e = same_Some q k (sym (back q) ∙ ap key_in e ∙ back k)

pub no_header : (k : KeyName) → stanza_of k ≡ header → ⊥
no_header k e = let z : Some k ≡ None = sym (back k) ∙ ap key_in e in cc
