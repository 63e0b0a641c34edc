-- Two sane trees that show the same names, contents and attributes at each path are one.
use Rattle.std.specs.Prelude.{find, option_map, reverse}
use Rattle.std.specs.Cmp.{first_so}
use Rattle.std.proofs.Common.{◌≡◌, ℕ, true, List, [], ◌∷◌, Option, Some, None, refl, sym, ◌∙◌, ap, subst}
use Rattle.std.proofs.lemmas.List.{reverse-reverse}
use Rattle.mtn_base.specs.Names.{name_cmp, bytes_cmp, same_bytes}
use Rattle.mtn_roster.specs.declared.entry.Attr.{Attr}
use Rattle.mtn_roster.specs.declared.entry.Entry.{Entry}
use Rattle.mtn_roster.specs.declared.entry.Slot.TheVariants.{Root, Below}
use Rattle.mtn_roster.specs.Attrs.{are_keyed}
use Rattle.mtn_roster.specs.Tree.{Tree, node_up, node_at, attr_of, path_of, IsSane}
use Rattle.mtn_base.proofs.Finding.{Split, found}
use Rattle.mtn_base.proofs.Tests.{same_bytes-is}
use Rattle.mtn_roster.proofs.Forest.{IsForest, split_of, at_slot-is, node_below, node_there}
use Rattle.mtn_base.proofs.Orders.{bytes_total, names_total}
use Rattle.mtn_roster.proofs.Ordered.{forest_of}
use Rattle.mtn_roster.proofs.Pathing.{path_leads}
use Rattle.mtn_base.proofs.Sorting.{one_sorted}
use Rattle.mtn_roster.proofs.Keyed.{own_key}
use Rattle.mtn_roster.proofs.Along.{keyed}

-- what two nodes share, apart from where they hang
pub record IsLike (e f : Entry) : Type 0 where
  pub name : e.name ≡ f.name
  pub body : e.body ≡ f.body
  pub attrs : (k : List ℕ) → attr_of e.attrs k ≡ attr_of f.attrs k

abbrev pub AreLike : Option Entry → Option Entry → Type 0
AreLike (Some e) (Some f) = IsLike e f
AreLike None None = Unit {0}
AreLike _ _ = ⊥

-- attributes by ascending keys are what they say of each key
kept_in : (as' bs : List Attr) → are_keyed as' ≡ true → ((k : List ℕ) → attr_of as' k ≡ attr_of bs k) → (a : Attr) → Split as' a → Split bs a
kept_in as' bs h same a s =
    let own : attr_of as' a.key ≡ Some a.value = ap (option_map (λ (b : Attr). b.value)) (own_key as' h a s) in
    at (find (λ (b : Attr). same_bytes b.key a.key) bs) refl (sym (same a.key) ∙ own)
  where
    at : (o : Option Attr) → find (λ (b : Attr). same_bytes b.key a.key) bs ≡ o → option_map (λ (b : Attr). b.value) o ≡ Some a.value → Split bs a
    at None e g = absurd cc
    at (Some b) e g =
        let f = found (λ (b : Attr). same_bytes b.key a.key) bs b e in
        let key : b.key ≡ a.key = same_bytes-is b.key a.key f.passes in
        let value : b.value ≡ a.value = cc in
        subst (Split bs) (λ i. record { key = key i; value = value i }) f.at

pub same_attrs : (as' bs : List Attr) → are_keyed as' ≡ true → are_keyed bs ≡ true → ((k : List ℕ) → attr_of as' k ≡ attr_of bs k) → as' ≡ bs
same_attrs as' bs ha hb same =
    one_sorted bytes_cmp (λ (a : Attr). a.key) bytes_total as' bs ha hb
    (kept_in as' bs ha same)
    (kept_in bs as' hb (λ k. sym (same k)))

module _ (s t : Tree) (ss : IsSane s) (st : IsSane t) (alike : (p : List (List ℕ)) → AreLike (node_at s p) (node_at t p)) where
  hs : IsForest s
  hs = forest_of s ss

  ht : IsForest t
  ht = forest_of t st

  alike_up : (up : List (List ℕ)) (e f : Entry) → node_up s up ≡ Some e → node_up t up ≡ Some f → IsLike e f
  alike_up up e f h g =
      let a : node_at s (reverse up) ≡ Some e = ap (node_up s) (reverse-reverse up) ∙ h in
      let b : node_at t (reverse up) ≡ Some f = ap (node_up t) (reverse-reverse up) ∙ g in
      subst (λ o. AreLike o (Some f)) a (subst (AreLike (node_at s (reverse up))) b (alike (reverse up)))

  slots_are : (up : List (List ℕ)) (e f : Entry) → node_up s up ≡ Some e → node_up t up ≡ Some f → e.slot ≡ f.slot
  slots_are [] e f h g = (at_slot-is s hs Root e h).0 ∙ sym (at_slot-is t ht Root f g).0
  slots_are (name ∷ up) e f h g =
      let d = node_below s hs name up e h in
      let c = node_below t ht name up f g in
      d.2 ∙ ap (λ n. Below n name) (alike_up up d.0 c.0 d.1 c.1).name ∙ sym c.2

  entries_are : (p : List (List ℕ)) (e f : Entry) → node_at s p ≡ Some e → node_at t p ≡ Some f → e ≡ f
  entries_are p e f h g =
      let like = subst (λ o. AreLike o (Some f)) h (subst (AreLike (node_at s p)) g (alike p)) in
      let slot = slots_are (reverse p) e f h g in
      let attrs = same_attrs e.attrs f.attrs (keyed s ss e (node_there s hs (reverse p) e h)) (keyed t st f (node_there t ht (reverse p) f g)) like.attrs in
      λ i. record { name = like.name i; slot = slot i; body = like.body i; attrs = attrs i }

  pub nodes_are : (p : List (List ℕ)) → node_at s p ≡ node_at t p
  nodes_are p = by (node_at s p) (node_at t p) refl refl
    where
      by : (a b : Option Entry) → node_at s p ≡ a → node_at t p ≡ b → a ≡ b
      by None None h g = refl
      by None (Some f) h g = absurd (subst (λ o. AreLike o (Some f)) h (subst (AreLike (node_at s p)) g (alike p)))
      by (Some e) None h g = absurd (subst (λ o. AreLike o None) h (subst (AreLike (node_at s p)) g (alike p)))
      by (Some e) (Some f) h g = ap Some (entries_are p e f h g)

  pub trees_are : s ≡ t
  trees_are =
      one_sorted name_cmp (λ (e : Entry). e.name) names_total s t (first_so _ _ ss.ordered) (first_so _ _ st.ordered)
      (λ e u. split_of t e.name e (node_there t ht (reverse (path_of s e)) e (sym (nodes_are (path_of s e)) ∙ path_leads s hs e.name e (hs.distinct e u))))
      (λ e u. split_of s e.name e (node_there s hs (reverse (path_of t e)) e (nodes_are (path_of t e) ∙ path_leads t ht e.name e (ht.distinct e u))))
