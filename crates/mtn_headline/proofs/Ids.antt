-- The ids that a merge's revision names are twenty bytes, so that a text spells it.
use Rattle.std.specs.Prelude.{IsSome, map}
use Rattle.std.specs.FinMap.{get}
use Rattle.std.specs.List.{AllByRecursion}
use Rattle.std.proofs.Common.{◌≡◌, ℕ, ◌<◌, List, [], ◌∷◌, ◌++◌, length, Option, Some, None, refl, sym, ap, ◌∙◌, subst, arith}
use Rattle.hex.specs.Hex.{IsBytes}
use Rattle.mtn_base.specs.Hex.{id_of}
use Rattle.mtn_base.specs.declared.id.Id.{Id}
use Rattle.mtn_base.proofs.Finding.{Split, later}
use Rattle.mtn_base.proofs.Members.{head}
use Rattle.mtn_basic_io.specs.Spelling.{IsStanza, AreStanzas}
use Rattle.mtn_between.specs.Between.{between}
use Rattle.mtn_between.specs.Laws.{IsContentIn}
use Rattle.mtn_between.proofs.Standing.{IsAdd, IsPatch, each_is}
use Rattle.mtn_changes.specs.declared.change.Change.{Change}
use Rattle.mtn_changes.specs.declared.change.Change.TheVariants.{Delete, Rename, AddDir, AddFile, Patch, Clear, Set}
use Rattle.mtn_changes.specs.declared.head.Head.TheVariants.{Version, Manifest, Parent}
use Rattle.mtn_changes.specs.Heads.{head_stanza}
use Rattle.mtn_changes.specs.RevisionText.{edge_stanzas, revision_stanzas}
use Rattle.mtn_changes.specs.Stanzas.{stanza_of}
use Rattle.mtn_history_laws.specs.History.{Revision, tree_at}
use Rattle.mtn_model.specs.State.{Logged, AreFiles}
use Rattle.mtn_model.specs.Table.{Table}
use Rattle.mtn_merging.specs.MergeEdges.{merge_edges}
use Rattle.mtn_merging.proofs.Accepted.{sane_at, tree_is}
use Rattle.mtn_merged_trees.proofs.Held.{trees_are_held}
use Rattle.mtn_replay.specs.Lawful.{IsHistory}
use Rattle.mtn_replay.specs.Making.{parent_tree, place_of}
use Rattle.mtn_replay.proofs.Places.{place_has, place_within, within}
use Rattle.mtn_roster.specs.declared.entry.Body.TheVariants.{File}
use Rattle.mtn_roster.specs.Tree.{Tree, IsSane}
use Rattle.mtn_order.specs.Free.{MakesIds}

abbrev pub IsId : Id → Type 0
IsId id = (length id.0 ≡ 20) × IsBytes id.0

all_append : {X : Type 0} (P : X → Type 0) (xs ys : List X) → AllByRecursion P xs → AllByRecursion P ys → AllByRecursion P (xs ++ ys)
all_append P [] ys h g = g
all_append P (x ∷ xs) ys h g = (h.0, all_append P xs ys h.1 g)

-- ---- stanzas

-- the ids that a change names
abbrev pub HasIds : Change → Type 0
HasIds (AddFile path content) = IsId content
HasIds (Patch path a b) = IsId a × IsId b
HasIds _ = Unit {0}

change_stanza : (c : Change) → HasIds c → IsStanza (stanza_of c)
change_stanza (Delete path) h = (omega arith, ((record { symbol_lawful = refl; some_value = omega arith }, (tt, tt)), tt))
change_stanza (Rename path to) h = (omega arith, ((record { symbol_lawful = refl; some_value = omega arith }, (tt, tt)), ((record { symbol_lawful = refl; some_value = omega arith }, (tt, tt)), tt)))
change_stanza (AddDir path) h = (omega arith, ((record { symbol_lawful = refl; some_value = omega arith }, (tt, tt)), tt))
change_stanza (AddFile path content) h = (omega arith, ((record { symbol_lawful = refl; some_value = omega arith }, (tt, tt)), ((record { symbol_lawful = refl; some_value = omega arith }, (h, tt)), tt)))
change_stanza (Patch path a b) h =
    (omega arith, ((record { symbol_lawful = refl; some_value = omega arith }, (tt, tt)), ((record { symbol_lawful = refl; some_value = omega arith }, (h.0, tt)), ((record { symbol_lawful = refl; some_value = omega arith }, (h.1, tt)), tt))))
change_stanza (Clear path key) h = (omega arith, ((record { symbol_lawful = refl; some_value = omega arith }, (tt, tt)), ((record { symbol_lawful = refl; some_value = omega arith }, (tt, tt)), tt)))
change_stanza (Set path key value) h =
    (omega arith, ((record { symbol_lawful = refl; some_value = omega arith }, (tt, tt)), ((record { symbol_lawful = refl; some_value = omega arith }, (tt, tt)), ((record { symbol_lawful = refl; some_value = omega arith }, (tt, tt)), tt))))

version_stanza : IsStanza (head_stanza Version)
version_stanza = (omega arith, ((record { symbol_lawful = refl; some_value = omega arith }, (tt, tt)), tt))

manifest_stanza : (id : Id) → IsId id → IsStanza (head_stanza (Manifest id))
manifest_stanza id h = (omega arith, ((record { symbol_lawful = refl; some_value = omega arith }, (h, tt)), tt))

parent_stanza : (id : Id) → IsId id → IsStanza (head_stanza (Parent (Some id)))
parent_stanza id h = (omega arith, ((record { symbol_lawful = refl; some_value = omega arith }, (h, tt)), tt))

changes_stanzas : (cs : List Change) → ((c : Change) → Split cs c → HasIds c) → AreStanzas (map stanza_of cs)
changes_stanzas [] h = tt
changes_stanzas (c ∷ cs) h = (change_stanza c (h c (head c cs)), changes_stanzas cs (λ d s. h d (later c cs d s)))

-- ---- ids

id_is : (f : List ℕ → List ℕ) (id : Id) (text : List ℕ) → MakesIds f → f text ≡ id.0 → IsId id
id_is f id text ids e = (sym (ap length e) ∙ (ids text).twenty, subst IsBytes e (ids text).bytes)

content_is : (f : List ℕ → List ℕ) (files : Table) (id : Id) → MakesIds f → AreFiles f files → IsSome (get files id.0) → IsId id
content_is f files id ids are some = go (get files id.0) refl some
  where
    go : (o : Option (List ℕ)) → get files id.0 ≡ o → IsSome o → IsId id
    go None e z = absurd (let y = z in cc)
    go (Some bytes) e z = id_is f id bytes ids (are.ids id.0 bytes e)

module _ (f : List ℕ → List ℕ) (ids : MakesIds f) (files : Table) (are : AreFiles f files) (log : List Logged) (h : List Revision) (is : IsHistory f files log h) where
  -- the id of a revision
  pub held_is : (id : Id) (p : ℕ) → place_of h id ≡ Some p → IsId id
  held_is id p e =
      let v = place_has h id p e in
      let l = within log p (subst (λ n. p < n) is.long (place_within h id p e)) in
      let next = is.each p l.0 v.0 l.1 v.1 in
      let named : id_of l.0.id ≡ id = sym (ap (λ (x : Revision). x.id) next.made) ∙ v.2 in
      subst IsId named (id_is f (id_of l.0.id) l.0.text ids next.id)

  -- the changes of an edge to a tree of held contents
  changes_ids : (p : ℕ) (t : Tree) → IsSane (tree_at h p) → IsSane t → ((content : Id) → IsContentIn t content → IsSome (get files content.0)) → (c : Change) → Split (between (tree_at h p) t) c → HasIds c
  changes_ids p t so st held (Delete d) u = tt
  changes_ids p t so st held (Rename d r) u = tt
  changes_ids p t so st held (AddDir d) u = tt
  changes_ids p t so st held (AddFile d x) u =
      let r : IsAdd (tree_at h p) t d (File x) = each_is (tree_at h p) t so st (AddFile d x) u in
      content_is f files x ids are (held x (r.f.name, r.f, r.here, r.is))
  changes_ids p t so st held (Patch d x y) u =
      let r : IsPatch (tree_at h p) t d x y = each_is (tree_at h p) t so st (Patch d x y) u in (
        content_is f files x ids are (trees_are_held f files log h is p r.f.name r.e x r.was r.from),
        content_is f files y ids are (held y (r.f.name, r.f, r.here, r.to)),
      )
  changes_ids p t so st held (Clear d k) u = tt
  changes_ids p t so st held (Set d k v) u = tt

  edge_is : (a : Id) (p : ℕ) (t : Tree) → place_of h a ≡ Some p → IsSane t → ((content : Id) → IsContentIn t content → IsSome (get files content.0)) →
      AreStanzas (edge_stanzas (record { parent = Some a; changes = between (parent_tree h (Some a)) t }))
  edge_is a p t at st held = (
    parent_stanza a (held_is a p at),
    changes_stanzas (between (parent_tree h (Some a)) t)
        (subst (λ s. (c : Change) → Split (between s t) c → HasIds c) (sym (tree_is f files log h is a p at)) (changes_ids p t (sane_at f files log h is a p at) st held)),
  )

  -- a text spells the revision of a merge
  pub merge_stanzas : (a b : Id) (p q : ℕ) (t : Tree) (manifest : Id) → place_of h a ≡ Some p → place_of h b ≡ Some q → IsSane t → ((content : Id) → IsContentIn t content → IsSome (get files content.0)) → IsId manifest →
      AreStanzas (revision_stanzas (record { manifest = manifest; edges = merge_edges h a b t }))
  merge_stanzas a b p q t manifest ia ib st held named = (
    version_stanza,
    (
      manifest_stanza manifest named,
      all_append IsStanza (edge_stanzas (record { parent = Some a; changes = between (parent_tree h (Some a)) t })) (edge_stanzas (record { parent = Some b; changes = between (parent_tree h (Some b)) t }) ++ [])
          (edge_is a p t ia st held) (all_append IsStanza (edge_stanzas (record { parent = Some b; changes = between (parent_tree h (Some b)) t })) [] (edge_is b q t ib st held) tt),
    ),
  )
