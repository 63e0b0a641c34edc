-- A job behind a front stands on its history.
use Rattle.std.specs.Prelude.{find, is_none, option_map, option_and_then, take}
use Rattle.std.specs.List.{AllByRecursion, AllZip, cons_option}
use Rattle.std.proofs.Common.{◌≡◌, ℕ, ◌+◌, ◌<◌, ◌≤◌, cond, List, [], ◌∷◌, ◌++◌, length, Option, Some, None, refl, sym, ap, ◌∙◌, subst, arith}
use Rattle.mtn_base.specs.declared.id.Id.{Id}
use Rattle.mtn_base.specs.declared.limits.TheConstants.{MAX_TEXT}
use Rattle.mtn_base.specs.declared.refusal.Cause.TheVariants.{UnknownParent}
use Rattle.mtn_changes.specs.declared.change.Edge.{Edge}
use Rattle.mtn_changes.specs.RevisionText.{AreEdges, Ascend}
use Rattle.mtn_check_laws.specs.Fronts.{Front, IsKeptNext, StandsTo}
use Rattle.mtn_check_pieces.specs.Laws.{AreParentsOn, IsNextMarked}
use Rattle.mtn_changes.specs.declared.change.Revision.{Revision as Spelled}
use Rattle.mtn_check_pieces.specs.Verdict.{IsRevisionOf, IsWholeOf, IsAgreeing}
use Rattle.mtn_check_pieces.specs.declared.job.CheckJob.{CheckJob}
use Rattle.mtn_roster_deltas.proofs.Zipping.{at_place, place_within as within}
use Rattle.mtn_check_pieces.proofs.Marked.{next_marked}
use Rattle.mtn_history.specs.Revisions.{Kept, AreKept, next_of, all_entries}
use Rattle.mtn_history_laws.specs.History.{Revision, IsGrown}
use Rattle.mtn_history_laws.proofs.Growing.{grown_more}
use Rattle.mtn_make_roster.specs.Basis.{IsParentAt, edges_refusal}
use Rattle.mtn_marking.specs.Graph.{IsMarkedAt}
use Rattle.mtn_marking.specs.Marking.{MarkedTree}
use Rattle.mtn_marking.proofs.Zips.{take_past}
use Rattle.mtn_model.specs.Table.{Contents}
use Rattle.mtn_records.specs.declared.record.RosterRecord.{RosterRecord}
use Rattle.mtn_records.specs.declared.record.RosterRecord.TheVariants.{Whole, Delta}
use Rattle.mtn_replay.specs.Lawful.{IsNext}
use Rattle.mtn_replay.specs.Making.{place_of, parents_of, unknown_parent, bad_change, bad_join, log_full, made, made_tree, tree_refusal}
use Rattle.mtn_replay.proofs.Histories.{history_is_grown}
use Rattle.mtn_replay.proofs.Places.{place_within, no_place}
use Rattle.mtn_replay.proofs.Steps.{both_none, join_none, accepted_steps}
use Rattle.mtn_records.specs.declared.entry.NumberedEntry.{NumberedEntry}
use Rattle.mtn_roster_deltas.specs.Numbering.{fresh, number_in}
use Rattle.mtn_roster_deltas.specs.Spelled.{Spells}
use Rattle.mtn_roster_deltas.proofs.Spelling.{one_tree}
use Rattle.mtn_check_pieces_laws.proofs.Agreed.{next_agrees}
use Rattle.mtn_check_pieces_laws.specs.Behind.{IsKeptRecord, AreApartIn, IsJobBehind, IsKeptUnnumbered, AreNumbersDue, logged_of}

module _ (h : List Revision) (ks : List Kept) (kept : AreKept h ks) where
  -- what is kept of a revision spells it with its marks
  kept_marked : (p : ℕ) → p < length h → (r : RosterRecord) (t : MarkedTree) → IsKeptRecord ks p r → IsWholeOf r t → IsMarkedAt h p t
  kept_marked p lt r t k w =
      let v = at_place h p lt in
      let is = kept.each p v.0 k.kept v.1 k.held in
      let spells : Spells k.kept.entries t = subst (λ x. IsWholeOf x t) k.whole w in
      subst (IsMarkedAt h p) (one_tree k.kept.entries (record { tree = v.0.tree; marks = is.marks }) t is.numbered.spells spells) is.marked

  -- a parent that is not unknown stands somewhere
  first_known : (a : Id) (rest : List Id) → option_map UnknownParent (find (λ id. is_none (place_of h id)) (a ∷ rest)) ≡ None →
      ((p : ℕ) × (place_of h a ≡ Some p)) × (option_map UnknownParent (find (λ id. is_none (place_of h id)) rest) ≡ None)
  first_known a rest e = by (place_of h a) refl
    where
      by : (o : Option ℕ) → place_of h a ≡ o → ((p : ℕ) × (place_of h a ≡ Some p)) × (option_map UnknownParent (find (λ id. is_none (place_of h id)) rest) ≡ None)
      by None at = absurd (
          let t = sym (ap (λ o. option_map UnknownParent (cond (is_none o) (Some a) (find (λ id. is_none (place_of h id)) rest))) at) ∙ e in
          cc)
      by (Some p) at = ((p, at), sym (ap (λ o. option_map UnknownParent (cond (is_none o) (Some a) (find (λ id. is_none (place_of h id)) rest))) at) ∙ e)

  parent_at : (e : Edge) (a : Id) (p : ℕ) → e.parent ≡ Some a → place_of h a ≡ Some p → (r : RosterRecord) (t : MarkedTree) → IsKeptRecord ks p r → IsWholeOf r t → IsParentAt h e p t
  parent_at e a p is there r t k w = record {
    place = ap (option_and_then (place_of h)) is ∙ there;
    marked = kept_marked p (place_within h a p there) r t k w;
  }

  module _ (job : CheckJob) where
    abbrev Records : List ℕ → List RosterRecord → Type 0
    Records = AllZip (IsKeptRecord ks)

    on_none : (e : Edge) → e.parent ≡ None → (rs : List RosterRecord) (ts : List MarkedTree) → Records [] rs → AllZip IsWholeOf rs ts → AreParentsOn h job (e ∷ []) ts
    on_none e is [] [] a b = is
    on_none e is [] (t ∷ ts) a b = absurd b
    on_none e is (r ∷ rs) ts a b = absurd a

    on_one : (e : Edge) (a : Id) (p : ℕ) → e.parent ≡ Some a → place_of h a ≡ Some p → (rs : List RosterRecord) (ts : List MarkedTree) → Records (p ∷ []) rs → AllZip IsWholeOf rs ts →
        AreParentsOn h job (e ∷ []) ts
    on_one e a p is there [] ts k w = absurd k
    on_one e a p is there (r ∷ []) [] k w = absurd w
    on_one e a p is there (r ∷ []) (t ∷ []) k w = (p, parent_at e a p is there r t k.0 w.0)
    on_one e a p is there (r ∷ []) (t ∷ u ∷ ts) k w = absurd w.1
    on_one e a p is there (r ∷ s ∷ rs) ts k w = absurd k.1

    on_two : (e f : Edge) (a b : Id) (p q : ℕ) → e.parent ≡ Some a → f.parent ≡ Some b → place_of h a ≡ Some p → place_of h b ≡ Some q → AreApartIn h (p ∷ q ∷ []) job →
        (rs : List RosterRecord) (ts : List MarkedTree) → Records (p ∷ q ∷ []) rs → AllZip IsWholeOf rs ts → AreParentsOn h job (e ∷ f ∷ []) ts
    on_two e f a b p q is it there here apart [] ts k w = absurd k
    on_two e f a b p q is it there here apart (r ∷ []) ts k w = absurd k.1
    on_two e f a b p q is it there here apart (r ∷ s ∷ []) [] k w = absurd w
    on_two e f a b p q is it there here apart (r ∷ s ∷ []) (t ∷ []) k w = absurd w.1
    on_two e f a b p q is it there here apart (r ∷ s ∷ []) (t ∷ u ∷ []) k w = record {
      p = p;
      q = q;
      left_at = parent_at e a p is there r t k.0 w.0;
      right_at = parent_at f b q it here s u k.1.0 w.1.0;
      left_alone = apart.0;
      right_alone = apart.1;
    }
    on_two e f a b p q is it there here apart (r ∷ s ∷ []) (t ∷ u ∷ v ∷ ts) k w = absurd w.1.1
    on_two e f a b p q is it there here apart (r ∷ s ∷ x ∷ rs) ts k w = absurd k.1.1

    -- the parents that the records spell are those of the edges
    parents_on : (edges : List Edge) → AreEdges edges → unknown_parent h edges ≡ None → Records (parents_of h edges) job.parents → AreApartIn h (parents_of h edges) job →
        (ts : List MarkedTree) → AllZip IsWholeOf job.parents ts → AreParentsOn h job edges ts
    parents_on [] lawful named records apart ts w = absurd lawful
    parents_on (e ∷ []) lawful named records apart ts w = by e.parent refl
      where
        by : (o : Option Id) → e.parent ≡ o → AreParentsOn h job (e ∷ []) ts
        by None is = on_none e is job.parents ts (subst (λ o. Records (cons_option (option_and_then (place_of h) o) []) job.parents) is records) w
        by (Some a) is =
            let k = first_known a [] (sym (ap (λ o. option_map UnknownParent (find (λ id. is_none (place_of h id)) (cons_option o []))) is) ∙ named) in
            let place : option_and_then (place_of h) e.parent ≡ Some k.0.0 = ap (option_and_then (place_of h)) is ∙ k.0.1 in
            on_one e a k.0.0 is k.0.1 job.parents ts (subst (λ o. Records (cons_option o []) job.parents) place records) w
    parents_on (e ∷ f ∷ []) lawful named records apart ts w = by e.parent f.parent refl refl
      where
        by : (o u : Option Id) → e.parent ≡ o → f.parent ≡ u → AreParentsOn h job (e ∷ f ∷ []) ts
        by None u is it = absurd (subst (λ o. Ascend o f.parent) is lawful.2)
        by (Some a) None is it = absurd (subst (Ascend (Some a)) it (subst (λ o. Ascend o f.parent) is lawful.2))
        by (Some a) (Some b) is it =
            let told = sym (ap (λ o. option_map UnknownParent (find (λ id. is_none (place_of h id)) (cons_option o (cons_option f.parent [])))) is
            ∙ ap (λ o. option_map UnknownParent (find (λ id. is_none (place_of h id)) (cons_option (Some a) (cons_option o [])))) it) ∙ named in
            let k = first_known a (b ∷ []) told in
            let m = first_known b [] k.1 in
            let here : option_and_then (place_of h) e.parent ≡ Some k.0.0 = ap (option_and_then (place_of h)) is ∙ k.0.1 in
            let there : option_and_then (place_of h) f.parent ≡ Some m.0.0 = ap (option_and_then (place_of h)) it ∙ m.0.1 in
            let places : parents_of h (e ∷ f ∷ []) ≡ k.0.0 ∷ m.0.0 ∷ [] =
            ap (λ o. cons_option o (cons_option (option_and_then (place_of h) f.parent) [])) here ∙ ap (λ o. k.0.0 ∷ cons_option o []) there in
            on_two e f a b k.0.0 m.0.0 is it k.0.1 m.0.1 (subst (λ ps. AreApartIn h ps job) places apart) job.parents ts (subst (λ ps. Records ps job.parents) places records) w
    parents_on (e ∷ f ∷ g ∷ more) lawful named records apart ts w = absurd lawful

module _ (f : List ℕ → List ℕ) (c : Contents) (r : ℕ) (front : Front) (job : CheckJob) (stands : StandsTo f c r front) (g : IsAgreeing job) (behind : IsJobBehind front g.revision.edges job) where
  abbrev h : List Revision
  h = front.history

  edges : List Edge
  edges = g.revision.edges

  next : IsNextMarked h job.id g.revision.edges g.stored
  next = next_marked h job g (record {
    grown = history_is_grown f (c 2) front.log h stands.spelled;
    fresh = behind.fresh;
    here = behind.here;
    parents_are = parents_on h front.kept stands.revisions job g.revision.edges g.read.spelled.lawful behind.named behind.records behind.apart g.made.parents g.made.spelled;
  })

  pub agreeing_is_kept : IsKeptUnnumbered h (made h job.id g.revision.edges) job.stored
  agreeing_is_kept = by job.stored g.spelled
    where
      by : (s : RosterRecord) → IsWholeOf s g.stored → IsKeptUnnumbered h (made h job.id g.revision.edges) s
      by (Delta base depth gone changed) w = absurd w
      by (Whole entries) w = record {
        entries = entries;
        whole = refl;
        marks = g.stored.marks;
        marked = subst (λ t. IsMarkedAt (h ++ made h job.id g.revision.edges ∷ []) (length h) (record { tree = t; marks = g.stored.marks })) next.tree next.marked;
        spelled = subst (λ t. Spells entries (record { tree = t; marks = g.stored.marks })) next.tree w;
      }

  pub agreeing_is_lawful : length job.text ≤ MAX_TEXT → f job.text ≡ job.id.0 → log_full h ≡ None → tree_refusal f (c 2) g.revision g.stored.tree ≡ None →
      IsNext f (c 2) h (logged_of job) (made h job.id g.revision.edges)
  agreeing_is_lawful short id room fine =
      let b = both_none (bad_change h 1 g.revision.edges) _ next.fine in
      let tree : tree_refusal f (c 2) g.revision (made_tree h job.id g.revision.edges) ≡ None = subst (λ t. tree_refusal f (c 2) g.revision t ≡ None) next.tree fine in
      record {
        short = short;
        id = id;
        fresh = behind.fresh;
        read = g.revision;
        spells = record { reads = g.read.spelled; stanzas = g.read.ids };
        accepted = join_none _ _ room (join_none _ _ behind.named (join_none _ _ b.0 (join_none _ _ b.1 tree)));
        made = refl;
      }

pub numbered_is_kept : (h : List Revision) (ks : List Kept) (v : Revision) (new : Kept) → length ks ≡ length h → IsKeptUnnumbered h v (Whole new.entries) → AreNumbersDue ks v new → IsKeptNext h ks v new
numbered_is_kept h ks v new long k due =
    let same : k.entries ≡ new.entries = let t = k.whole in cc in
    let all : take (length h) ks ≡ ks = take_whole ks (length h) long in
    record {
      marks = k.marks;
      marked = k.marked;
      numbered = record {
        spells = subst (λ es. Spells es (record { tree = v.tree; marks = k.marks })) same k.spelled;
        numbers = subst (λ js. AllByRecursion (λ (e : NumberedEntry). number_in (all_entries js) (next_of js) v.tree e.node ≡ Some e.number) new.entries) (sym all) due.numbers;
      };
      next = subst (λ js. new.next ≡ next_of js + length (fresh (all_entries js) v.tree)) (sym all) due.next;
      depth = due.depth;
    }
  where
    take_whole : {X : Type 0} (xs : List X) (n : ℕ) → length xs ≡ n → take n xs ≡ xs
    take_whole xs n e = take_past xs n (omega (arith, e))

module _ (h : List Revision) (ks : List Kept) (kept : AreKept h ks) where
  -- the records of what is kept spell their rosters
  spell_one : (p : ℕ) (r : RosterRecord) → IsKeptRecord ks p r → (t : MarkedTree) × IsWholeOf r t
  spell_one p r k =
      let v = at_place h p (subst (λ n. p < n) kept.long (within ks p k.kept k.held)) in
      let is = kept.each p v.0 k.kept v.1 k.held in
      (record { tree = v.0.tree; marks = is.marks }, subst (λ x. IsWholeOf x (record { tree = v.0.tree; marks = is.marks })) (sym k.whole) is.numbered.spells)

  spell_all : (ps : List ℕ) (rs : List RosterRecord) → AllZip (IsKeptRecord ks) ps rs → (ts : List MarkedTree) × AllZip IsWholeOf rs ts
  spell_all [] [] z = ([], tt)
  spell_all [] (r ∷ rs) z = absurd z
  spell_all (p ∷ ps) [] z = absurd z
  spell_all (p ∷ ps) (r ∷ rs) z =
      let one = spell_one p r z.0 in
      let rest = spell_all ps rs z.1 in
      (one.0 ∷ rest.0, (one.1, rest.1))

module _ (f : List ℕ → List ℕ) (c : Contents) (r : ℕ) (front : Front) (job : CheckJob) (v : Spelled) (stands : StandsTo f c r front) (read : IsRevisionOf job.text v)
    (behind : IsJobBehind front v.edges job) (fine : edges_refusal front.history job.id v.edges ≡ None) (k : IsKeptUnnumbered front.history (made front.history job.id v.edges) job.stored) where
  abbrev stored : MarkedTree
  stored = record { tree = made_tree front.history job.id v.edges; marks = k.marks }

  grown : IsGrown front.history
  grown = history_is_grown f (c 2) front.log front.history stands.spelled

  parents : (ts : List MarkedTree) × AllZip IsWholeOf job.parents ts
  parents = spell_all front.history front.kept stands.revisions (parents_of front.history v.edges) job.parents behind.records

  pub kept_agrees : IsAgreeing job
  kept_agrees =
      let b = both_none (bad_change front.history 1 v.edges) _ fine in
      next_agrees front.history job v stored parents.0 read (subst (λ x. IsWholeOf x stored) (sym k.whole) k.spelled) parents.1
      (record {
        grown = grown;
        fresh = behind.fresh;
        here = behind.here;
        parents_are = parents_on front.history front.kept stands.revisions job v.edges read.spelled.lawful behind.named behind.records behind.apart parents.0 parents.1;
      })
      (record {
        fine = fine;
        tree = refl;
        grows = grown_more front.history (made front.history job.id v.edges) grown
            (accepted_steps front.history grown job.id (no_place front.history job.id behind.fresh) v.edges read.spelled.lawful behind.named b.0 b.1);
        marked = k.marked;
      })

-- what is kept of the next revision, but for its numbers
unnumbered : (h : List Revision) (ks : List Kept) (v : Revision) (new : Kept) → IsKeptNext h ks v new → IsKeptUnnumbered h v (Whole new.entries)
unnumbered h ks v new k = record { entries = new.entries; whole = refl; marks = k.marks; marked = k.marked; spelled = k.numbered.spells }

pub due_agrees : (f : List ℕ → List ℕ) (c : Contents) (r : ℕ) (front : Front) (job : CheckJob) (v : Revision) (new : Kept) → StandsTo f c r front →
    (n : IsNext f (c 2) front.history (logged_of job) v) → IsJobBehind front n.read.edges job → IsKeptNext front.history front.kept v new → job.stored ≡ Whole new.entries → IsAgreeing job
due_agrees f c r front job v new stands n behind k is =
    let h = front.history in
    let edges = n.read.edges in
    let a = both_none (log_full h) _ n.accepted in
    let b = both_none (unknown_parent h edges) _ a.1 in
    let d = both_none (bad_change h 1 edges) _ b.1 in
    let e = both_none (bad_join h job.id edges) _ d.1 in
    kept_agrees f c r front job n.read stands (record { spelled = n.spells.reads; ids = n.spells.stanzas }) behind
    (join_none (bad_change h 1 edges) (bad_join h job.id edges) d.0 e.0)
    (subst (IsKeptUnnumbered h (made h job.id edges)) (sym is) (subst (λ w. IsKeptUnnumbered h w (Whole new.entries)) n.made (unnumbered h front.kept v new k)))
