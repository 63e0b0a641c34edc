-- A stored roster that agrees is that of the next revision of a history.
use Rattle.std.specs.Prelude.{map, is_some, not}
use Rattle.std.specs.List.{AllZip}
use Rattle.std.proofs.Common.{◌≡◌, ℕ, List, [], ◌∷◌, ◌++◌, length, None, refl, sym, ap, ◌∙◌, subst}
use Rattle.mtn_base.specs.declared.id.Id.{Id}
use Rattle.mtn_changes.specs.declared.change.Edge.{Edge}
use Rattle.mtn_changes.specs.RevisionText.{AreEdges}
use Rattle.mtn_changeset_laws.specs.Changes.{tree_after}
use Rattle.mtn_changeset_laws.specs.Joining.{join_fault, joined}
use Rattle.mtn_history_laws.specs.History.{Revision, IsGrown}
use Rattle.mtn_history_laws.proofs.Growing.{grown_more}
use Rattle.mtn_join.specs.Join.{is_outside}
use Rattle.mtn_make_roster.specs.Basis.{edges_refusal}
use Rattle.mtn_make_roster.proofs.Based.{old_root, old_parent, tree_is, one_fine, both_made, join_fine, held_root, held_one, held_two, parents_root, parents_one, parents_two}
use Rattle.mtn_make_roster.proofs.Told.{once_two}
use Rattle.mtn_marking.specs.Graph.{IsMarkedAt, Extends}
use Rattle.mtn_marking.specs.Marking.{MarkedTree, AreFor, on_none, on_one, on_two}
use Rattle.mtn_marking.specs.declared.node.AttrMarks.{AttrMarks}
use Rattle.mtn_marking.proofs.Historic.{graph_root, graph_one, graph_two}
use Rattle.mtn_records.specs.declared.entry.NumberedAttr.{NumberedAttr}
use Rattle.mtn_records.specs.declared.entry.NumberedBody.{NumberedBody}
use Rattle.mtn_records.specs.declared.entry.NumberedBody.TheVariants as numbered
use Rattle.mtn_records.specs.declared.record.RosterRecord.{RosterRecord}
use Rattle.mtn_records.specs.declared.record.RosterRecord.TheVariants.{Whole, Delta}
use Rattle.mtn_replay.specs.Making.{place_of, parents_of, unknown_parent, bad_change, made, made_tree}
use Rattle.mtn_replay.proofs.Places.{no_place}
use Rattle.mtn_replay.proofs.Steps.{both_none, accepted_steps}
use Rattle.mtn_roster.specs.declared.entry.Attr.{Attr}
use Rattle.mtn_roster.specs.declared.entry.Body.{Body}
use Rattle.mtn_roster.specs.Tree.{Tree, IsSane, is_dir_body}
use Rattle.mtn_roster_deltas.specs.Chain.{Entries}
use Rattle.mtn_roster_deltas.specs.Spelled.{IsEntryOf, by_node, body_of, content_marks_of, attr_of, attr_marks_of, marks_of}
use Rattle.mtn_check_pieces.specs.declared.job.CheckJob.{CheckJob}
use Rattle.mtn_check_pieces.specs.Verdict.{IsWholeOf, IsMadeOf, IsAgreeing}
use Rattle.mtn_check_pieces.specs.Laws.{StandsOn, IsNextMarked}
use Rattle.mtn_check_pieces.proofs.ByNode.{by_node as node_by_node}

-- what entries spell is sane, and its marks are of its nodes
has_content : (x : NumberedBody) (b : Body) → b ≡ body_of x → is_some (content_marks_of x) ≡ not (is_dir_body b)
has_content numbered.Dir b e = ap (λ y. not (is_dir_body y)) (sym e)
has_content (numbered.File content marks) b e = ap (λ y. not (is_dir_body y)) (sym e)

same_keys : (xs : List NumberedAttr) → map (λ (a : AttrMarks). a.key) (map attr_marks_of xs) ≡ map (λ (a : Attr). a.key) (map attr_of xs)
same_keys [] = refl
same_keys (x ∷ xs) = ap (λ l. x.key ∷ l) (same_keys xs)

marks_fit : (es : Entries) (xs : Entries) (t : Tree) → AllZip (IsEntryOf es) xs t → AreFor t (map marks_of xs)
marks_fit es [] [] z = tt
marks_fit es [] (n ∷ t) z = absurd z
marks_fit es (x ∷ xs) [] z = absurd z
marks_fit es (x ∷ xs) (n ∷ t) z = (
  record { name = sym z.0.name; content = has_content x.body n.body z.0.body; keys = same_keys x.attrs ∙ sym (ap (map (λ (a : Attr). a.key)) z.0.attrs) },
  marks_fit es xs t z.1,
)

pub whole_fits : (r : RosterRecord) (t : MarkedTree) → IsWholeOf r t → AreFor t.tree t.marks
whole_fits (Whole es) t s = subst (AreFor t.tree) (sym s.marks) (marks_fit es (by_node es) t.tree s.tree)
whole_fits (Delta base depth gone changed) t s = absurd s

whole_sane : (r : RosterRecord) (t : MarkedTree) → IsWholeOf r t → IsSane t.tree
whole_sane (Whole es) t s = s.sane
whole_sane (Delta base depth gone changed) t s = absurd s

abbrev pub AllSane : List MarkedTree → Type 0
AllSane [] = Unit {0}
AllSane (p ∷ ps) = IsSane p.tree × AllSane ps

pub all_sane : (rs : List RosterRecord) (ps : List MarkedTree) → AllZip IsWholeOf rs ps → AllSane ps
all_sane [] [] z = tt
all_sane [] (p ∷ ps) z = absurd z
all_sane (r ∷ rs) [] z = absurd z
all_sane (r ∷ rs) (p ∷ ps) z = (whole_sane r p z.0, all_sane rs ps z.1)

module _ (h : List Revision) (grown : IsGrown h) (new : Id) (fresh : place_of h new ≡ None) (at : ℕ) (here : at ≡ length h) (stored : MarkedTree) where
  -- the history grows by what is made
  extends : (edges : List Edge) → AreEdges edges → (ps : List ℕ) → unknown_parent h edges ≡ None → parents_of h edges ≡ ps → edges_refusal h new edges ≡ None →
      stored.tree ≡ made_tree h new edges → Extends h (made h new edges) at ps stored.tree
  extends edges lawful ps held parents fine is =
      let b = both_none (bad_change h 1 edges) _ fine in
      record {
        place = here;
        grown = grown_more h (made h new edges) grown (accepted_steps h grown new (no_place h new fresh) edges lawful held b.0 b.1);
        parents_are = parents;
        tree_is = sym is;
      }

  is_next : (edges : List Edge) (ps : List ℕ) → edges_refusal h new edges ≡ None → stored.tree ≡ made_tree h new edges → Extends h (made h new edges) at ps stored.tree →
      IsMarkedAt (h ++ made h new edges ∷ []) at stored → IsNextMarked h new edges stored
  is_next edges ps fine is ext marked = record {
    fine = fine;
    tree = is;
    grows = ext.grown;
    marked = subst (λ r. IsMarkedAt (h ++ made h new edges ∷ []) r stored) here marked;
  }

module _ (h : List Revision) (job : CheckJob) (stored : MarkedTree) (sane : IsSane stored.tree) (fits : AreFor stored.tree stored.marks) where
  root_next : (e : Edge) → AreEdges (e ∷ []) → StandsOn h job (e ∷ []) [] → IsMadeOf job (e ∷ []) stored [] → IsNextMarked h job.id (e ∷ []) stored
  root_next e lawful on made_of =
      let old = old_root h on.grown job.id on.fresh e on.parents_are in
      let t = made_of.tree.tree in
      let fine = one_fine h job.id e [] old t.fine in
      let is : stored.tree ≡ made_tree h job.id (e ∷ []) = t.made ∙ sym (tree_is h job.id e [] old) in
      let ext = extends h on.grown job.id on.fresh job.at on.here stored (e ∷ []) lawful [] (held_root h e on.parents_are) (parents_root h e on.parents_are) fine is in
      let nodes = node_by_node stored.tree sane stored.marks fits (on_none job.at) made_of.marked.rule made_of.marked.births in
      is_next h on.grown job.id on.fresh job.at on.here stored (e ∷ []) [] fine is ext (graph_root job.at stored.tree stored.marks nodes h (made h job.id (e ∷ [])) ext)

  child_next : (e : Edge) (p : MarkedTree) → AreEdges (e ∷ []) → StandsOn h job (e ∷ []) (p ∷ []) → IsMadeOf job (e ∷ []) stored (p ∷ []) → IsNextMarked h job.id (e ∷ []) stored
  child_next e p lawful on made_of =
      let n = on.parents_are.0 in
      let there = on.parents_are.1 in
      let old = old_parent h on.grown job.id on.fresh e n p there in
      let t = made_of.tree.tree in
      let fine = one_fine h job.id e p.tree old t.fine in
      let is : stored.tree ≡ made_tree h job.id (e ∷ []) = t.made ∙ sym (tree_is h job.id e p.tree old) in
      let ext = extends h on.grown job.id on.fresh job.at on.here stored (e ∷ []) lawful (n ∷ []) (held_one h e n there.place) (parents_one h e n there.place) fine is in
      let nodes = node_by_node stored.tree sane stored.marks fits (on_one job.at p) made_of.marked.rule made_of.marked.births in
      is_next h on.grown job.id on.fresh job.at on.here stored (e ∷ []) (n ∷ []) fine is ext
      (graph_one job.at stored.tree stored.marks p nodes h (made h job.id (e ∷ [])) n ext there.marked)

  merge_next : (e f : Edge) (p q : MarkedTree) → IsSane p.tree → IsSane q.tree → AreEdges (e ∷ f ∷ []) → StandsOn h job (e ∷ f ∷ []) (p ∷ q ∷ []) →
      IsMadeOf job (e ∷ f ∷ []) stored (p ∷ q ∷ []) → IsNextMarked h job.id (e ∷ f ∷ []) stored
  merge_next e f p q sp sq lawful on made_of =
      let two = on.parents_are in
      let ol = job.only_left in
      let or = job.only_right in
      let left = old_parent h on.grown job.id on.fresh e two.p p two.left_at in
      let right = old_parent h on.grown job.id on.fresh f two.q q two.right_at in
      let t = made_of.tree in
      let once = once_two (e ∷ f ∷ []) e f refl lawful in
      let none : join_fault job.id (is_outside or.ids) (is_outside ol.ids) (tree_after p.tree e.changes job.id) (tree_after q.tree f.changes job.id) ≡ None =
      subst (λ (x : Tree). join_fault job.id (is_outside or.ids) (is_outside ol.ids) (tree_after p.tree e.changes job.id) x ≡ None) t.second_is.made
      (subst (λ (x : Tree). join_fault job.id (is_outside or.ids) (is_outside ol.ids) x t.second ≡ None) t.first_is.made t.joined_are.agreed) in
      let fine = join_fine h on.grown job.id on.fresh e f p q ol or two sp sq once.0 once.1 t.first_is.fine t.second_is.fine none in
      let is : stored.tree ≡ made_tree h job.id (e ∷ f ∷ []) =
      t.joined_are.made ∙ ap (λ (x : Tree). joined x t.second job.id) t.first_is.made ∙ ap (λ (x : Tree). joined (tree_after p.tree e.changes job.id) x job.id) t.second_is.made
      ∙ sym (both_made h job.id e f p.tree q.tree left right) in
      let ext = extends h on.grown job.id on.fresh job.at on.here stored (e ∷ f ∷ []) lawful (two.p ∷ two.q ∷ [])
      (held_two h e f two.p two.q two.left_at.place two.right_at.place) (parents_two h e f two.p two.q two.left_at.place two.right_at.place) fine is in
      let nodes = node_by_node stored.tree sane stored.marks fits (on_two job.at p q ol.positions or.positions) made_of.marked.rule made_of.marked.births in
      is_next h on.grown job.id on.fresh job.at on.here stored (e ∷ f ∷ []) (two.p ∷ two.q ∷ []) fine is ext
      (graph_two job.at stored.tree stored.marks p q ol.positions or.positions nodes h (made h job.id (e ∷ f ∷ [])) two.p two.q ext
      two.left_at.marked two.right_at.marked two.left_alone.positions two.right_alone.positions)

  any_next : (edges : List Edge) (ps : List MarkedTree) → AllSane ps → AreEdges edges → StandsOn h job edges ps → IsMadeOf job edges stored ps → IsNextMarked h job.id edges stored
  any_next [] ps s lawful on m = absurd lawful
  any_next (e ∷ []) [] s lawful on m = root_next e lawful on m
  any_next (e ∷ []) (p ∷ []) s lawful on m = child_next e p lawful on m
  any_next (e ∷ []) (p ∷ q ∷ ps) s lawful on m = absurd on.parents_are
  any_next (e ∷ f ∷ []) [] s lawful on m = absurd on.parents_are
  any_next (e ∷ f ∷ []) (p ∷ []) s lawful on m = absurd on.parents_are
  any_next (e ∷ f ∷ []) (p ∷ q ∷ []) s lawful on m = merge_next e f p q s.0 s.1.0 lawful on m
  any_next (e ∷ f ∷ []) (p ∷ q ∷ r ∷ ps) s lawful on m = absurd on.parents_are
  any_next (e ∷ f ∷ g ∷ more) ps s lawful on m = absurd lawful

pub next_marked : (h : List Revision) (job : CheckJob) (g : IsAgreeing job) → StandsOn h job g.revision.edges g.made.parents → IsNextMarked h job.id g.revision.edges g.stored
next_marked h job g on =
    any_next h job g.stored (whole_sane job.stored g.stored g.spelled) (whole_fits job.stored g.stored g.spelled) g.revision.edges g.made.parents
    (all_sane job.parents g.made.parents g.made.spelled) g.read.spelled.lawful on g.made.made
