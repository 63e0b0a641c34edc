-- The first revision is put over an empty log, or collides.
use Rattle.std.specs.Prelude.{Contains, is_none, find, map, option_map}
use Rattle.std.specs.FinMap.{get}
use Rattle.std.specs.List.{AllByRecursion}
use Rattle.std.proofs.Common.{◌≡◌, ◌<◌, ◌≤◌, ℕ, cond, List, [], ◌∷◌, length, Some, None, Ok, refl, sym, ◌∙◌, ap, subst, inl, inr, arith}
use Rattle.mtn_base.specs.Hex.{id_of}
use Rattle.mtn_base.specs.declared.id.Id.{Id}
use Rattle.mtn_base.specs.declared.refusal.Cause.TheVariants.{UnknownFile}
use Rattle.mtn_certs.specs.Certificates.{IsIdBytes}
use Rattle.mtn_changes.specs.declared.change.Edge.{Edge}
use Rattle.mtn_changes.specs.declared.change.Revision.{Revision as Spelled}
use Rattle.mtn_changes.proofs.OneValue.{same_revision}
use Rattle.mtn_changeset_laws.specs.Changes.{first_fault, or_else, tree_after}
use Rattle.mtn_generated.specs.Growing.{Adds, GrowthAnswer, Grown, files_refusal, grown, with_files}
use Rattle.mtn_generated.specs.Numbered.{Tips, content_of, edge_of, edge_text, file_text, files_of, no_id, no_tips, ten, tips_after}
use Rattle.mtn_generated.specs.Numbered.Work.{Begins}
use Rattle.mtn_generated_laws.proofs.Children.{placed}
use Rattle.mtn_generated_laws.proofs.Held.{files_leave, logged_at, put_held}
use Rattle.mtn_generated_laws.proofs.KeptFiles.{files_held}
use Rattle.mtn_generated_laws.proofs.Readable.{digits_same, first_spells}
use Rattle.mtn_generated_laws.proofs.Steps.{IsEdgePut, tips_are_ids}
use Rattle.mtn_generated_trees.specs.Formed.{IsFormed}
use Rattle.mtn_generated_trees.proofs.Limits.{not_too_long, not_too_many}
use Rattle.mtn_history_laws.specs.History.{Revision, revision_tree}
use Rattle.mtn_manifest.specs.Manifest.{manifest_of}
use Rattle.mtn_model.specs.State.{Logged, State}
use Rattle.mtn_model.specs.Table.{Table}
use Rattle.mtn_replay.specs.Accepting.{Decides}
use Rattle.mtn_replay.specs.Lawful.{IsLawful}
use Rattle.mtn_replay.specs.Making.{change_fault, edge_tree, made, place_of, too_long, too_many}
use Rattle.mtn_replay.proofs.Histories.{history_is_grown, one_history}
use Rattle.mtn_step_laws.proofs.LawfulGrowth.{lawful_files}
use Rattle.mtn_generated_steps.proofs.Edges.{Applies, IsPutOrCollides, edge_put, read_of}
use Rattle.mtn_generated_steps.proofs.First.{form, new, new_sane}
use Rattle.mtn_generated_steps.proofs.Lengthening.{lengthened}
use Rattle.mtn_generated_steps.proofs.Moving.{Comes, behind_files}
use Rattle.mtn_generated_steps.proofs.Short.{all_few, edge_short, file_short}
use Rattle.mtn_generated_steps.proofs.Stages.{WorkStands}
use Rattle.mtn_generated_steps.proofs.Twins.{same_manifest}

short_files : (js : List ℕ) → AllByRecursion (λ j. j < 10) js → AllByRecursion (λ text. length text ≤ 67108864) (map (λ j. file_text j 0) js)
short_files [] few = tt
short_files (j ∷ js) few = (let less = few.0 in file_short j 0 (omega (arith, less)) (omega arith), short_files js few.1)

module _ (f : List ℕ → List ℕ) where
  abbrev HasFile : Table → ℕ → Type 0
  HasFile files j = get files (f (file_text j 0)) ≡ Some (file_text j 0)

  no_unknown : (files : Table) (js : List ℕ) → AllByRecursion (HasFile files) js → find (λ (id : Id). is_none (get files id.0)) (map (λ j. content_of f j 0) js) ≡ None
  no_unknown files [] have = refl
  no_unknown files (j ∷ js) have = ap (λ o. cond (is_none o) (Some (content_of f j 0)) (find (λ (id : Id). is_none (get files id.0)) (map (λ k. content_of f k 0) js))) have.0 ∙ no_unknown files js have.1

  abbrev texts : List (List ℕ)
  texts = files_of 1 Begins

  module _ (makes : (text : List ℕ) → IsIdBytes (f text)) (s : State) (law : IsLawful f s) (empty : length s.log ≡ 0) where
    abbrev start : Grown
    start = grown s no_tips

    abbrev behind : State
    behind = with_files f s texts

    abbrev e : Edge
    e = edge_of f 1 Begins no_tips

    tree_is : (h : List Revision) (x : Id) → edge_tree h x e ≡ new f x
    tree_is h x = ap (λ cs. tree_after [] cs x) (digits_same f)

    module _ (fine : files_refusal f s texts ≡ None) where
      has : (j : ℕ) → Contains texts (file_text j 0) → HasFile behind.files j
      has j at = files_held f texts s (file_text j 0) fine at

      have : AllByRecursion (HasFile behind.files) ten
      have = (
        has 0 (0, omega arith, refl),
        (
          has 1 (1, omega arith, refl),
          (
            has 2 (2, omega arith, refl),
            (
              has 3 (3, omega arith, refl),
              (
                has 4 (4, omega arith, refl),
                (has 5 (5, omega arith, refl), (has 6 (6, omega arith, refl), (has 7 (7, omega arith, refl), (has 8 (8, omega arith, refl), (has 9 (9, omega arith, refl), tt))))),
              ),
            ),
          ),
        ),
      )

      law_behind : IsLawful f behind
      law_behind = lawful_files f texts s law fine

      abbrev h : List Revision
      h = law_behind.history

      abbrev text : List ℕ
      text = edge_text f h e

      applies : Applies f behind h e
      applies =
          let ids = tips_are_ids f makes s 0 start refl in
          record {
            parent = refl;
            changes = ap (λ cs. or_else (option_map (change_fault 1) (first_fault [] cs)) None) (digits_same f);
            files = ap (option_map UnknownFile) (no_unknown behind.files ten have);
            spells = first_spells f makes h no_tips;
            short = edge_short f makes h 1 Begins no_tips (omega arith) (λ b. refl) ids.left ids.right;
            nodes = λ x fresh. ap too_many (tree_is h x) ∙ not_too_many f 1 0 (omega arith) (new f x) (new_sane f x) (form f x);
            paths = λ x fresh. ap too_long (tree_is h x) ∙ not_too_long f 1 0 (omega arith) (new f x) (new_sane f x) (form f x);
            manifest = ap manifest_of (tree_is h (id_of (f text))) ∙ same_manifest f (id_of (f text)) no_id (makes text).twenty refl ∙ sym (ap manifest_of (tree_is h no_id));
          }

      begun : (g : Grown) → IsEdgePut f Begins no_tips behind g 1 → WorkStands f Begins 1 g
      begun g put =
          let one = one_history f behind.files behind.log put.history h put.spelled law_behind.log in
          let decides : Decides f behind text None g.state = subst (λ k. Decides f behind (edge_text f k e) None g.state) one put.put.decides in
          let tips : g.tips ≡ tips_after Begins (id_of (f text)) no_tips = put.put.behind ∙ ap (λ k. tips_after Begins (id_of (f (edge_text f k e))) no_tips) one in
          let l = lengthened f behind h law_behind.log text g.state decides in
          let at = logged_at f g.state.files g.state.log l.history text l.spelled (put_held f behind text g.state decides) in
          let spells = first_spells f makes h no_tips in
          let edges : at.next.read.edges ≡ e ∷ [] = ap (λ (r : Spelled). r.edges) (same_revision text at.next.read (read_of f h e) at.next.spells.stanzas spells.stanzas at.next.spells.reads spells.reads) in
          let is_made = at.next.made ∙ ap (made _ (id_of (f text))) edges in
          let left : id_of (f text) ≡ g.tips.left = sym (ap (λ (t : Tips). t.left) tips) in
          let leave = ap (λ (x : List Logged). length x) (files_leave f texts s) in
          record {
            room = let longer = l.longer in omega (arith, longer, leave, empty);
            by = record {
              attrs = 0;
              most = omega arith;
              one = ap (λ (t : Tips). t.right) tips ∙ left;
              history = l.history;
              spelled = l.spelled;
              place = at.place;
              at = ap (place_of l.history) (sym left) ∙ placed l.history (history_is_grown f g.state.files g.state.log l.history l.spelled) (id_of (f text)) at.place (at.revision, at.at, ap (λ (v : Revision). v.id) is_made);
              form = subst (IsFormed f 1 0) (sym (ap revision_tree at.at ∙ ap (λ (v : Revision). v.tree) is_made ∙ tree_is h (id_of (f text)))) (form f (id_of (f text)));
            };
          }

    pub first_step : (answer : GrowthAnswer) → Adds f 1 Begins start answer → Comes (WorkStands f Begins 1) answer
    first_step answer adds = behind_files f 1 Begins start (λ b. cc) answer (short_files ten all_few) adds (WorkStands f Begins 1)
        (λ fine puts put.
        let leave = ap (λ (x : List Logged). length x) (files_leave f texts s) in
        to fine (edge_put f behind (h fine) (law_behind fine).log (omega (arith, leave, empty)) Begins no_tips 1 (applies fine) answer puts) put)
      where
        to : (fine : files_refusal f s texts ≡ None) → IsPutOrCollides answer → ((g : Grown) → answer ≡ Ok g → IsEdgePut f Begins no_tips behind g 1) → Comes (WorkStands f Begins 1) answer
        to fine (inl a) put = inl (a.0, a.1, begun fine a.0 (put a.0 a.1))
        to fine (inr c) put = inr c
