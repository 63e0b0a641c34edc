-- The resolution that a stanza may spell.
use Rattle.std.proofs.Common.{◌≡◌, ℕ, List, [], ◌∷◌, Option, Some, None, refl, sym, ap, ◌∙◌, arith}
use Rattle.std.specs.Prelude.{codes, if◌then◌else◌}
use Rattle.std.specs.Str.{bytes_eq}
use Rattle.std.specs.Option.{option_map, option_and_then}
use Rattle.std.proofs.lemmas.Option.{same_Some}
use Rattle.mtn_base.specs.declared.id.Id.{Id}
use Rattle.mtn_base.specs.declared.name.NodeName.{NodeName}
use Rattle.mtn_base.specs.Comps.{AreComps}
use Rattle.mtn_base.specs.Paths.{path_text, pieces_of}
use Rattle.mtn_basic_io.specs.declared.stanza.Value.{Value}
use Rattle.mtn_basic_io.specs.declared.stanza.Value.TheVariants.{Text, Hex}
use Rattle.mtn_basic_io.specs.Spelling.{LineText}
use Rattle.mtn_changes.proofs.PathText.{pieces_back}
use Rattle.mtn_roster.specs.declared.entry.Slot.{Slot}
use Rattle.mtn_roster.specs.declared.entry.Slot.TheVariants.{Root, Below}
use Rattle.mtn_resolve.specs.declared.resolution.Resolution.{Resolution}
use Rattle.mtn_resolve.specs.declared.resolution.Resolution.TheVariants.{Drop, Place, Content, AttrSet, AttrClear, Keep}
use Rattle.mtn_resolve.specs.Texts.{stanza_of, header, IsResolution, IsSlot}

-- what the lines of a stanza hold
abbrev symbol : List LineText → List ℕ
symbol [] = []
symbol (l ∷ ls) = l.symbol

abbrev values : List LineText → List Value
values [] = []
values (l ∷ ls) = l.values

abbrev below : List LineText → List LineText
below [] = []
below (l ∷ ls) = ls

abbrev others : List Value → List Value
others [] = []
others (v ∷ vs) = vs

abbrev text_in : List Value → List ℕ
text_in (Text t ∷ vs) = t
text_in _ = []

abbrev id_in : List Value → Option Id
id_in (Hex id ∷ vs) = id
id_in _ = None

-- the path of a text
abbrev path_in : List ℕ → List (List ℕ)
path_in [] = []
path_in (b ∷ bs) = pieces_of (b ∷ bs)

some_text : (t : List ℕ) (p : List (List ℕ)) → pieces_of t ≡ p → (t ≡ [] → ⊥) → path_in t ≡ p
some_text [] p e some = absurd (some refl)
some_text (b ∷ bs) p e some = e

path_back : (p : List (List ℕ)) → AreComps p → path_in (path_text p) ≡ p
path_back [] all = refl
path_back ([] ∷ cs) all = absurd (omega (arith, all.0.some))
path_back ((b ∷ bs) ∷ []) all = some_text (path_text ((b ∷ bs) ∷ [])) ((b ∷ bs) ∷ []) (pieces_back (b ∷ bs) [] all) (λ e. cc e)
path_back ((b ∷ bs) ∷ d ∷ cs) all = some_text (path_text ((b ∷ bs) ∷ d ∷ cs)) ((b ∷ bs) ∷ d ∷ cs) (pieces_back (b ∷ bs) (d ∷ cs) all) (λ e. cc e)

-- a node's name, by an id and a text
abbrev name_in : List Value → Option NodeName
name_in vs = option_map (λ (id : Id). record { birth = id; path = path_in (text_in (others vs)) }) (id_in vs)

abbrev key_in : List Value → List ℕ
key_in vs = text_in (others (others vs))

-- the slot of two lines; the root's is below no id
abbrev slot_by : Option NodeName → List ℕ → Slot
slot_by None name = Root
slot_by (Some parent) name = Below parent name

abbrev slot_in : List LineText → Slot
slot_in s = slot_by (name_in (values s)) (text_in (values (below s)))

abbrev pub resolution_in : List LineText → Option Resolution
resolution_in s =
    if bytes_eq (symbol s) (codes "drop") then option_map Drop (name_in (values s))
    else if bytes_eq (symbol s) (codes "slot") then option_map (λ (n : NodeName). Place n (slot_in (below s))) (name_in (values s))
    else if bytes_eq (symbol s) (codes "content") then option_and_then (λ (n : NodeName). option_map (λ (pick : Id). Content n pick) (id_in (values (below s)))) (name_in (values s))
    else if bytes_eq (symbol s) (codes "attr_set") then option_map (λ (n : NodeName). AttrSet n (key_in (values s)) (text_in (values (below s)))) (name_in (values s))
    else if bytes_eq (symbol s) (codes "attr_clear") then option_map (λ (n : NodeName). AttrClear n (key_in (values s))) (name_in (values s))
    else if bytes_eq (symbol s) (codes "keep") then option_map Keep (name_in (values s))
    else None

same_node : (n : NodeName) → AreComps n.path → record { birth = n.birth; path = path_in (path_text n.path) } ≡ n
same_node n all = λ i. record { birth = n.birth; path = path_back n.path all i }

slot_back : (s : Slot) → IsSlot s → (n : NodeName) → slot_in (below (stanza_of (Place n s))) ≡ s
slot_back Root is n = refl
slot_back (Below parent name) is n = ap (λ (p : NodeName). Below p name) (same_node parent is.0)

pub back : (r : Resolution) → IsResolution r → resolution_in (stanza_of r) ≡ Some r
back (Drop node) is = ap (λ (n : NodeName). Some (Drop n)) (same_node node is)
back (Place node slot) is = (λ i. Some (Place (same_node node is.0 i) (slot_back slot is.1 node i)))
back (Content node pick) is = ap (λ (n : NodeName). Some (Content n pick)) (same_node node is)
back (AttrSet node key value) is = ap (λ (n : NodeName). Some (AttrSet n key value)) (same_node node is.0)
back (AttrClear node key) is = ap (λ (n : NodeName). Some (AttrClear n key)) (same_node node is.0)
back (Keep node) is = ap (λ (n : NodeName). Some (Keep n)) (same_node node is)

-- a stanza spells one resolution
pub one_resolution : (q r : Resolution) → IsResolution q → IsResolution r → stanza_of q ≡ stanza_of r → q ≡ r
one_resolution q r a b e = same_Some q r (sym (back q a) ∙ ap resolution_in e ∙ back r b)

pub no_header : (r : Resolution) → IsResolution r → stanza_of r ≡ header → ⊥
no_header r a e = let z : Some r ≡ None = sym (back r a) ∙ ap resolution_in e in cc
