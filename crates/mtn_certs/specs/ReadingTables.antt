-- What is handed on within the reading of a text.
use Rattle.std.specs.Prelude.{◌≡◌, ◌⊎◌, ℕ, true, false, List, [], ◌∷◌, ◌++◌, map}
use Rattle.std.specs.List.{list_any}
use Rattle.std.specs.BTreeSet.{BTreeSet, contains}
use Rattle.std.specs.BTreeMap.{is_at}
use Rattle.mtn_base.specs.Ids.{by_id}
use Rattle.mtn_base.specs.Names.{bytes_cmp}
use Rattle.mtn_base.specs.declared.id.Id.{Id}
use Rattle.mtn_basic_io.specs.Spelling.{LineText}
use Rattle.mtn_certs.specs.declared.cert.KeyName.{KeyName}
use Rattle.mtn_certs.specs.declared.key_error.KeyTextError.{KeyTextError}
use Rattle.mtn_certs.specs.declared.key_error.KeyTextError.TheVariants.{NotText, BadStanza, BadOrder, Repeated, NoMemory}
use Rattle.mtn_certs.specs.KeyTables.{stanza_of, header, is_repeat, IsKeyName, AreKeyNames, IsNothing, IsFirstFault, IsLaterFault}

-- the ids and the names of key names
abbrev pub AreIds : BTreeSet Id → List KeyName → Type 0
AreIds ids read = (i : Id) → contains by_id ids i ≡ list_any (λ k. is_at (by_id k.id) i) read

abbrev pub AreTheNames : BTreeSet (List ℕ) → List KeyName → Type 0
AreTheNames names read = (n : List ℕ) → contains bytes_cmp names n ≡ list_any (λ k. is_at (bytes_cmp k.name) n) read

-- the key names that were read, and the sets of their ids and names
pub record IsPart (read items : List KeyName) (ids : BTreeSet Id) (names : BTreeSet (List ℕ)) : Type 0 where
  pub same : items ≡ read
  pub ids_are : AreIds ids read
  pub names_are : AreTheNames names read

-- the list with the key name of the stanza behind it
abbrev pub IsNextKeyName : List KeyName → List LineText → List KeyName → Type 0
IsNextKeyName before stanza after = (k : KeyName) × (stanza ≡ stanza_of k) × IsKeyName k × (is_repeat before k ≡ false) × (after ≡ before ++ k ∷ [])

-- why the stanza of a number may not stand behind key names
abbrev pub IsRefused : List KeyName → List LineText → ℕ → KeyTextError → Type 0
IsRefused before stanza number (NotText offset) = ⊥
IsRefused before stanza number (BadStanza n) = (n ≡ number) × IsNothing stanza
IsRefused before stanza number (BadOrder n) = (n ≡ number) × (stanza ≡ header)
IsRefused before stanza number (Repeated n) = (n ≡ number) × ((k : KeyName) × IsKeyName k × (stanza ≡ stanza_of k) × (is_repeat before k ≡ true))
IsRefused before stanza number NoMemory = Unit {0}

-- why it may not be the first
abbrev pub IsFirstRefused : List LineText → KeyTextError → Type 0
IsFirstRefused stanza NoMemory = Unit {0}
IsFirstRefused stanza e = IsFirstFault (stanza ∷ []) e

-- the header, and then the stanzas of key names
pub record IsList (stanzas : List (List LineText)) (keys : List KeyName) : Type 0 where
  pub lawful : AreKeyNames [] keys
  pub spelled : stanzas ≡ header ∷ map stanza_of keys

abbrev pub IsListFault : List (List LineText) → KeyTextError → Type 0
IsListFault stanzas NoMemory = Unit {0}
IsListFault stanzas e = IsFirstFault stanzas e ⊎ IsLaterFault stanzas e
