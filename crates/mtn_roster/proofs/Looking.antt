-- What a tree that is put in order has at a name.
use Rattle.std.specs.Prelude.{find, option_map, IsSome}
use Rattle.std.specs.Cmp.Lexicographic.{bytes_decides}
use Rattle.std.proofs.Common.{◌≡◌, ℕ, true, false, cond, List, [], ◌∷◌, Some, refl, sym, ◌∙◌, ap, subst}
use Rattle.mtn_base.specs.Names.{bytes_cmp, name_cmp, same_bytes, same_name}
use Rattle.mtn_base.specs.declared.name.NodeName.{NodeName}
use Rattle.mtn_base.proofs.Orders.{bytes_total, names_total, exact_bytes, exact_names}
use Rattle.mtn_base.proofs.Placed.{find-placed}
use Rattle.mtn_base.proofs.Tests.{same_name-is}
use Rattle.mtn_roster.specs.declared.entry.Entry.{Entry}
use Rattle.mtn_roster.specs.declared.entry.Attr.{Attr}
use Rattle.mtn_roster.specs.Tree.{Tree, entry_of, attr_of, with_attr, with_entry, in_order}

pub entry_of-with_entry : (e : Entry) (t : Tree) (n : NodeName) → entry_of (with_entry e t) n ≡ cond (same_name e.name n) (Some e) (entry_of t n)
entry_of-with_entry = find-placed name_cmp (λ e. e.name) same_name same_name-is names_total exact_names

pub entry_of-in_order : (es : List Entry) (n : NodeName) → entry_of (in_order es) n ≡ entry_of es n
entry_of-in_order [] n = refl
entry_of-in_order (e ∷ es) n = entry_of-with_entry e (in_order es) n ∙ ap (cond (same_name e.name n) (Some e)) (entry_of-in_order es n)

-- what attributes with one more have at a key
pub attr_of-with_attr : (a : Attr) (attrs : List Attr) (key : List ℕ) → attr_of (with_attr a attrs) key ≡ cond (same_bytes a.key key) (Some a.value) (attr_of attrs key)
attr_of-with_attr a attrs key =
    ap (option_map (λ (a : Attr). a.value)) (find-placed bytes_cmp (λ (a : Attr). a.key) same_bytes (λ x y h. (bytes_decides x y).0 h) bytes_total exact_bytes a attrs key)
    ∙ elim (same_bytes a.key key) as (λ b. option_map (λ (a : Attr). a.value) (cond b (Some a) (find (λ x. same_bytes x.key key) attrs)) ≡ cond b (Some a.value) (attr_of attrs key)) [ true ↦ refl | false ↦ refl ]

-- a key that is there stays
pub keeps_key : (a : Attr) (attrs : List Attr) (key : List ℕ) → IsSome (attr_of attrs key) → IsSome (attr_of (with_attr a attrs) key)
keeps_key a attrs key h =
    subst IsSome (sym (attr_of-with_attr a attrs key))
    (elim (same_bytes a.key key) as (λ b. IsSome (cond b (Some a.value) (attr_of attrs key))) [ true ↦ refl | false ↦ h ])
