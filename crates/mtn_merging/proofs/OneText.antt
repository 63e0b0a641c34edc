-- The text of a merge does not depend on the names of the nodes that it brings back.
use Rattle.std.specs.Prelude.{map, filter_map, ◌++◌}
use Rattle.std.proofs.Common.{◌≡◌, ℕ, List, [], ◌∷◌, Some, refl, sym, ◌∙◌, ap}
use Rattle.mtn_base.specs.Paths.{path_text}
use Rattle.mtn_base.specs.declared.id.Id.{Id}
use Rattle.mtn_basic_io.specs.Spelling.{LineText}
use Rattle.mtn_history_laws.specs.History.{Revision, tree_at}
use Rattle.mtn_model.specs.State.{Logged}
use Rattle.mtn_model.specs.Table.{Table}
use Rattle.mtn_roster.specs.declared.entry.Attr.{Attr}
use Rattle.mtn_roster.specs.declared.entry.Body.{Body}
use Rattle.mtn_roster.specs.declared.entry.Entry.{Entry}
use Rattle.mtn_roster.specs.Tree.{Tree, path_of, IsSane}
use Rattle.mtn_roster.specs.Walk.{by_path}
use Rattle.mtn_manifest.specs.Manifest.{attr_line, body_lines, node_stanza, head_stanza, manifest_of}
use Rattle.mtn_replay.specs.Making.{place_of}
use Rattle.mtn_replay.specs.Lawful.{IsHistory}
use Rattle.mtn_between.specs.Between.{between}
use Rattle.mtn_between.specs.Twins.{IsTwinOf}
use Rattle.mtn_between.proofs.Twinned.{between_same, shown_same}
use Rattle.mtn_merging.specs.MergeEdges.{merge_edges}
use Rattle.mtn_merging.proofs.Accepted.{tree_is, sane_at}

-- the stanza of what is shown of a node
stanza_of : List (List ℕ) × Body × List Attr → List LineText
stanza_of s = body_lines (path_text s.0) s.1 ++ filter_map attr_line s.2

stanzas : (t : Tree) (es : List Entry) → map (λ (e : Entry). node_stanza (path_text (path_of t e)) e) es ≡ map stanza_of (map (λ (e : Entry). (path_of t e, e.body, e.attrs)) es)
unfolding stanza_of
stanzas t [] = refl
stanzas t (e ∷ es) = ap (λ l. node_stanza (path_text (path_of t e)) e ∷ l) (stanzas t es)

pub manifests_same : (old t u : Tree) → IsSane old → IsSane t → IsSane u → IsTwinOf old t u → manifest_of t ≡ manifest_of u
manifests_same old t u so st su twins =
    ap (λ l. head_stanza ∷ l) (stanzas t (by_path t) ∙ ap (map stanza_of) (shown_same old t u so st su twins) ∙ sym (stanzas u (by_path u)))

pub edges_same : (f : List ℕ → List ℕ) (files : Table) (log : List Logged) (h : List Revision) → IsHistory f files log h → (a b : Id) (p q : ℕ) (t u : Tree) → place_of h a ≡ Some p → place_of h b ≡ Some q →
    IsSane t → IsSane u → IsTwinOf (tree_at h p) t u → IsTwinOf (tree_at h q) t u → merge_edges h a b t ≡ merge_edges h a b u
edges_same f files log h is a b p q t u ia ib st su left right =
    (λ i. record { parent = Some a; changes = between (tree_is f files log h is a p ia i) t } ∷ record { parent = Some b; changes = between (tree_is f files log h is b q ib i) t } ∷ [])
    ∙ (λ i. record { parent = Some a; changes = between_same (tree_at h p) t u (sane_at f files log h is a p ia) st su left i }
    ∷ record { parent = Some b; changes = between_same (tree_at h q) t u (sane_at f files log h is b q ib) st su right i } ∷ [])
    ∙ sym (λ i. record { parent = Some a; changes = between (tree_is f files log h is a p ia i) u } ∷ record { parent = Some b; changes = between (tree_is f files log h is b q ib i) u } ∷ [])
