-- Worked cases: a small tree, and what changesets and joinings make of it.
use Rattle.std.specs.Prelude.{ℕ, Bool, List, [], ◌∷◌, map, codes, replicate, Option, Some, option_map}
use Rattle.mtn_base.specs.Names.{same_id}
use Rattle.mtn_base.specs.declared.id.Id.{Id}
use Rattle.mtn_base.specs.declared.refusal.Why.{Why}
use Rattle.mtn_roster.specs.declared.entry.Body.{Body}
use Rattle.mtn_changes.specs.declared.change.Change.{Change}
use Rattle.mtn_changes.specs.declared.change.Change.TheVariants.{Delete, AddDir, AddFile, Set}
use Rattle.mtn_roster.specs.Tree.{Tree, node_at, path_of, attr_of}
use Rattle.mtn_changeset_laws.specs.Changes.{Fault, first_fault, tree_after}

-- twenty equal bytes
abbrev pub id : ℕ → Id
id n = record { 0 = replicate 20 n }

-- paths: the root path, and those of one and two components
abbrev pub root : List (List ℕ)
root = []

abbrev pub one : List ℕ → List (List ℕ)
one a = a ∷ []

abbrev pub two : List ℕ → List ℕ → List (List ℕ)
two a b = a ∷ b ∷ []

abbrev pub d : List ℕ
d = codes "d"

abbrev pub e : List ℕ
e = codes "e"

abbrev pub f : List ℕ
f = codes "f"

abbrev pub g : List ℕ
g = codes "g"

abbrev pub n : List ℕ
n = codes "n"

abbrev pub key : List ℕ
key = codes "key"

abbrev pub value : List ℕ
value = codes "value"

-- The tree of revision 1: directories d and e, a file f in d, and a file g with an attribute
abbrev pub first : List Change
first = AddDir root ∷ AddDir (one d) ∷ AddDir (one e) ∷ AddFile (two d f) (id 7) ∷ AddFile (one g) (id 8) ∷ Set (one g) key value ∷ []

abbrev pub home : Tree
home = tree_after [] first (id 1)

-- what a tree shows: paths, kinds and contents, by ascending names of the nodes
abbrev pub shown : Tree → List (List (List ℕ) × Body)
shown t = map (λ x. (path_of t x, x.body)) t

-- the reason for which the second of two changes fails, and its number; the first one passes
abbrev pub second_fails : Change → Change → Option Fault
second_fails before change = first_fault home (before ∷ change ∷ [])

abbrev pub failing : ℕ → Why → Option Fault
failing number reason = Some (record { number = number; reason = reason })

-- the attribute of the key of the node at a path
abbrev pub key_at : Tree → List (List ℕ) → Option (Option (Option (List ℕ)))
key_at t p = option_map (λ x. attr_of x.attrs key) (node_at t p)

-- the two trees of a revision 4, each made by an edge from a tree of revision 1 or later
abbrev pub edge : Tree → List Change → Tree
edge old all = tree_after old all (id 4)

-- the tree of revision 3, which deleted g
abbrev pub without_g : Tree
without_g = tree_after home (Delete (one g) ∷ []) (id 3)

-- revision 1 is an ancestor of both parents
abbrev pub knows_first : Id → Bool
knows_first i = same_id i (id 1)
