-- The records of a position whose job agrees lead to one revision more, or the first that is not as it should be is its damage.
use Rattle.std.specs.Prelude.{All, IsSome, IsTrue, take}
use Rattle.std.specs.List.{AllZip}
use Rattle.std.proofs.Common.{◌≡◌, ◌<◌, ◌≤◌, ◌+◌, ◌*◌, ◌⊎◌, ℕ, false, List, [], ◌∷◌, ◌++◌, length, drop, Option, Some, None, refl, sym, ap, ◌∙◌, subst, inl, inr, arith}
use Rattle.std.proofs.lemmas.List.{drop_at}
use Rattle.mtn_base.specs.Hex.{id_of}
use Rattle.mtn_base.specs.declared.id.Id.{Id}
use Rattle.mtn_base.specs.declared.limits.TheConstants.{MAX_TEXT}
use Rattle.mtn_base.specs.declared.name.NodeName.{NodeName}
use Rattle.mtn_base.specs.declared.refusal.Cause.{Cause}
use Rattle.mtn_changes.specs.declared.change.Edge.{Edge}
use Rattle.mtn_changes.specs.declared.change.Revision.{Revision as Spelled}
use Rattle.mtn_changes.specs.RevisionText.{IsRevisionText}
use Rattle.mtn_changes.proofs.OneValue.{same_revision}
use Rattle.mtn_check_laws.specs.FirstDamage.{IsDamageAt, at_text, at_telling, at_roster}
use Rattle.mtn_check_laws.specs.Fronts.{Front, IsEntered, IsFrontAt, IsKeptNext, IsTextAt, IsTold, StandsTo, next_after}
use Rattle.mtn_check_laws.specs.Sets.{HaveSets}
use Rattle.mtn_check_laws.proofs.Due.{due_sets, front_sets, one_due}
use Rattle.mtn_check_laws.proofs.Rosters.{one_kept}
use Rattle.mtn_check_laws.proofs.Standing.{front_stands}
use Rattle.mtn_check_laws.proofs.Walks.{one_roster}
use Rattle.mtn_check_pieces.specs.Verdict.{IsAgreeing, IsRevisionOf, IsWholeOf}
use Rattle.mtn_check_pieces.specs.declared.job.CheckJob.{CheckJob}
use Rattle.mtn_check_pieces.proofs.Answering.{one_whole}
use Rattle.mtn_check_pieces_laws.specs.Behind.{IsJobBehind, IsKeptUnnumbered, logged_of}
use Rattle.mtn_check_pieces_laws.proofs.Behind.{agreeing_is_kept, agreeing_is_lawful}
use Rattle.mtn_entry_laws.specs.Entries.{HasLawfulEntries}
use Rattle.mtn_entry_laws.proofs.LawfulEntries.{all_spell}
use Rattle.mtn_history.specs.Revisions.{Kept, next_of, all_entries, depth_on, IsRosterOf}
use Rattle.mtn_history.specs.declared.errors.Damage.TheVariants.{Bad}
use Rattle.mtn_history_laws.specs.History.{Revision, revision_tree, IsGrown}
use Rattle.mtn_marking.specs.Graph.{IsMarkedAt}
use Rattle.mtn_marking.specs.Marking.{MarkedTree}
use Rattle.mtn_marking.proofs.Zips.{take_past}
use Rattle.mtn_model.specs.State.{Logged}
use Rattle.mtn_model.specs.Table.{Contents}
use Rattle.mtn_put_revision.specs.Keeping.{AreKeptAt, IsFirstDepth, IsRecordOn}
use Rattle.mtn_put_revision.proofs.Deciding.{has_room}
use Rattle.mtn_put_revision.proofs.Numbers.{few_nodes, next_low, parents_known}
use Rattle.mtn_put_revision.proofs.Putting.{known_ascend}
use Rattle.mtn_put_revision.specs.Writing.{AllAscend, IsNextTree}
use Rattle.mtn_records.specs.Bounds.{IsRosterAt}
use Rattle.mtn_records.specs.Fields.{number_text}
use Rattle.mtn_records.specs.Records.{roster_text}
use Rattle.mtn_records.specs.declared.record.RosterRecord.{RosterRecord}
use Rattle.mtn_records.specs.declared.record.RosterRecord.TheVariants.{Whole}
use Rattle.mtn_replay.specs.Lawful.{IsHistory, IsNext}
use Rattle.mtn_replay.specs.Making.{bad_change, bad_join, log_full, made, parents_of, place_of, refusal_of, too_many, too_long, tree_refusal, unknown_file, unknown_parent}
use Rattle.mtn_replay.proofs.Histories.{history_is_grown, history_more, last_at}
use Rattle.mtn_replay.proofs.Steps.{both_none, join_none}
use Rattle.mtn_roster.specs.Tree.{entry_of}
use Rattle.mtn_roster_deltas.specs.Chain.{Entries}
use Rattle.mtn_roster_deltas.specs.Numbering.{all_of, fresh, number_among, AreKnown, IsNumbering}
use Rattle.mtn_roster_deltas.proofs.Known.{numbering_over, same_fresh}
use Rattle.mtn_check_records.specs.Due.{first_depth, HasEntries, HasNoNumbers, HasNoRecord, IsDueOver, IsFound, IsFoundOver, IsFoundUnder, IsFoundWith, IsNumberedOn, IsOtherNext, IsOtherOver, IsSound, IsTextFit, IsTextUnfit, IsToldParents, IsUnderId, IsUnsound}
use Rattle.mtn_check_records.specs.Fitting.{IsFitting}
use Rattle.mtn_check_records.specs.Reading.{places_of, IsReadAt, IsStepOf}
use Rattle.mtn_check_records.specs.declared.hand.Fit.{Fit}
use Rattle.mtn_check_records.specs.declared.hand.Fit.TheVariants.{Fits, OtherText, OtherLog, OtherRoster, Undecided}
use Rattle.mtn_check_records.specs.declared.hand.Position.{Position}
use Rattle.mtn_check_records.proofs.Given.{given_is}
use Rattle.mtn_check_records.proofs.Numbering.{same_number}
use Rattle.mtn_check_records.proofs.Parents.{are_low, are_whole, behind as behind_of, first_is, fresh as fresh_of, grown as grown_of, kept_are, long as long_of, parents_are}
use Rattle.mtn_check_records.proofs.Records.{deep_is, roster_on}

-- the next number of a log within its limit is at most the last one
within_numbers : (n next m : ℕ) → n ≡ next → next ≤ 1 + 100000 * m → m < 2147483648 → n ≤ 214748364800001
within_numbers n next m is low few = omega (arith, is, low, few)

module _ (f : List ℕ → List ℕ) (x : Position) (job : CheckJob) (c : Contents) (r : ℕ) (front : Front) (walked : IsFrontAt f c r front) (low : r < 2147483648)
    (at : IsReadAt c r front x job) (g : IsAgreeing job) where
  abbrev h : List Revision
  h = front.history

  abbrev ks : List Kept
  ks = front.kept

  abbrev edges : List Edge
  edges = g.revision.edges

  abbrev v : Revision
  v = made h job.id edges

  abbrev places : List ℕ
  places = places_of x.parents

  stands : StandsTo f c r front
  stands = front_stands f c r front walked

  long : length h ≡ r
  long = long_of f c r front x job stands low at

  stand : parents_of h edges ≡ places
  stand = parents_are f c r front x job stands low at edges (at.named g.revision g.read)

  behind : IsJobBehind front edges job
  behind = behind_of f c r front x job stands low at edges (at.named g.revision g.read)

  kept : IsKeptUnnumbered h v job.stored
  kept = agreeing_is_kept f c r front job stands g behind

  -- the tree of the stored roster
  abbrev own : MarkedTree
  own = record { tree = v.tree; marks = kept.marks }

  same_tree : (t : MarkedTree) → IsWholeOf job.stored t → t ≡ own
  same_tree t spelled = one_whole job.stored t own spelled (subst (λ s. IsWholeOf s own) (sym kept.whole) kept.spelled)

  entered : IsEntered c r front x.entry
  entered = record { logged = record { body = x.log.items; held = at.log; text = at.formed }; fresh = subst (λ i. place_of h i ≡ None) at.id (fresh_of f c r front x job stands low at) }

  same_text : (other : List ℕ) → number_text r ++ job.text ≡ number_text r ++ other → other ≡ job.text
  same_text other is = sym (drop_at (number_text r) other 8 refl) ∙ ap (drop 8) (sym is) ∙ drop_at (number_text r) job.text 8 refl

  -- no text that is lawful there stands under the id
  text_damage : ((l : Logged) (w : Revision) → l.id ≡ job.id.0 → l.text ≡ job.text → IsNext f (c 2) h l w → ⊥) → IsDamageAt f c r front (Bad 3 x.entry.id.0 (number_text r ++ job.text))
  text_damage never = at_text x.entry entered (refl, refl, at.text, λ l w same spelled next. never l w (same ∙ ap (λ (i : Id). i.0) (sym at.id)) (same_text l.text spelled) next)

  other_id : (IsUnderId f job → ⊥) → IsDamageAt f c r front (Bad 3 x.entry.id.0 (number_text r ++ job.text))
  other_id never = text_damage (λ l w same is next. never (record { short = subst (λ t. length t ≤ MAX_TEXT) is next.short; id = ap f (sym is) ∙ next.id ∙ same }))

  -- a lawful text has no refusal
  not_refused : (cause : Cause) → tree_refusal f (c 2) g.revision v.tree ≡ Some cause → (l : Logged) (w : Revision) → l.id ≡ job.id.0 → l.text ≡ job.text → IsNext f (c 2) h l w → ⊥
  not_refused cause some l w same is next =
      let read : next.read ≡ g.revision = same_revision job.text next.read g.revision next.spells.stanzas g.read.ids (subst (λ t. IsRevisionText t next.read) is next.spells.reads) g.read.spelled in
      let own_id : id_of l.id ≡ job.id = λ i. record { 0 = same i } in
      let accepted : refusal_of f (c 2) h job.id g.revision ≡ None = sym (λ i. refusal_of f (c 2) h (own_id i) (read i)) ∙ next.accepted in
      let a = both_none (log_full h) _ accepted in
      let b = both_none (unknown_parent h edges) _ a.1 in
      let d = both_none (bad_change h 1 edges) _ b.1 in
      let e = both_none (bad_join h job.id edges) _ d.1 in
      let t : Some cause ≡ None = sym some ∙ e.1 in
      cc

  refused : (cause : Cause) → tree_refusal f (c 2) g.revision v.tree ≡ Some cause → IsDamageAt f c r front (Bad 3 x.entry.id.0 (number_text r ++ job.text))
  refused cause some = text_damage (not_refused cause some)

  -- nothing is wrong with the tree, or there is a refusal
  whether : (o : Option Cause) → (o ≡ None → ⊥) → (cause : Cause) × (o ≡ Some cause)
  whether None never = absurd (never refl)
  whether (Some cause) never = (cause, refl)

  unheld : x.held ≡ false → IsDamageAt f c r front (Bad 3 x.entry.id.0 (number_text r ++ job.text))
  unheld none =
      let w = whether (tree_refusal f (c 2) g.revision v.tree) (λ fine.
      let a = both_none (too_many v.tree) _ fine in
      let b = both_none (too_long v.tree) _ a.1 in
      let d = both_none (unknown_file (c 2) edges) _ b.1 in
      let some : IsSome {T = Cause} None = subst IsSome d.0 (at.unheld g.revision g.read none) in
      cc) in
      refused w.0 w.1

  unsound : IsUnsound f job → IsDamageAt f c r front (Bad 3 x.entry.id.0 (number_text r ++ job.text))
  unsound u =
      let same_read : g.revision ≡ u.read = same_revision job.text g.revision u.read g.read.ids u.reads.ids g.read.spelled u.reads.spelled in
      let w = whether (tree_refusal f (c 2) g.revision v.tree) (λ fine.
      let a = both_none (too_many v.tree) _ fine in
      let b = both_none (too_long v.tree) _ a.1 in
      let d = both_none (unknown_file (c 2) edges) _ b.1 in
      let own_sound : IsSound f v.tree g.revision.manifest = record { limits = join_none (too_many v.tree) (too_long v.tree) a.0 b.0; named = d.1 } in
      u.unsound (subst (λ (t : MarkedTree). IsSound f t.tree u.read.manifest) (sym (same_tree u.stored u.spelled)) (subst (λ (s : Spelled). IsSound f v.tree s.manifest) same_read own_sound))) in
      refused w.0 w.1

  pub text_unfit : IsTextUnfit f x job → IsDamageAt f c r front (Bad 3 x.entry.id.0 (number_text r ++ job.text))
  text_unfit (inl never) = other_id never
  text_unfit (inr (inl none)) = unheld none
  text_unfit (inr (inr u)) = unsound u

  module _ (fit : IsTextFit f x job) where
    -- what was read is what the job has
    same_read : g.revision ≡ fit.read
    same_read = same_revision job.text g.revision fit.read g.read.ids fit.reads.ids g.read.spelled fit.reads.spelled

    same_stored : g.stored ≡ fit.stored
    same_stored = one_whole job.stored g.stored fit.stored g.spelled fit.spelled

    abbrev t : MarkedTree
    t = fit.stored

    own_tree : t ≡ own
    own_tree = same_tree t fit.spelled

    fine : tree_refusal f (c 2) g.revision g.stored.tree ≡ None
    fine =
        let limits = both_none (too_many t.tree) (too_long t.tree) fit.sound.limits in
        subst (λ (s : Spelled). tree_refusal f (c 2) s g.stored.tree ≡ None) (sym same_read)
        (subst (λ (u : MarkedTree). tree_refusal f (c 2) fit.read u.tree ≡ None) (sym same_stored)
        (join_none (too_many t.tree) _ limits.0 (join_none (too_long t.tree) _ limits.1
        (join_none (unknown_file (c 2) fit.read.edges) _ (at.files fit.read fit.reads fit.held) fit.sound.named))))

    lawful : IsNext f (c 2) h (logged_of job) v
    lawful = agreeing_is_lawful f c r front job stands g behind fit.under.short fit.under.id (has_room h r (sym long) low) fine

    more : IsHistory f (c 2) (front.log ++ logged_of job ∷ []) (h ++ v ∷ [])
    more = history_more f (c 2) front.log h (logged_of job) v stands.spelled lawful

    grown : IsGrown (h ++ v ∷ [])
    grown = history_is_grown f (c 2) (front.log ++ logged_of job ∷ []) (h ++ v ∷ []) more

    -- the history may have the stored tree next
    next_tree : IsNextTree h v t
    next_tree = record {
      grown = grown;
      marked = subst (IsMarkedAt (h ++ v ∷ []) (length h)) (sym own_tree) kept.marked;
      few = few_nodes t.tree (both_none (too_many t.tree) (too_long t.tree) fit.sound.limits).0;
      entries =
          subst (λ (u : MarkedTree). HasLawfulEntries u.tree) (sym own_tree)
          (subst (λ o. HasLawfulEntries (revision_tree o)) (last_at h v) (all_spell f (c 2) (front.log ++ logged_of job ∷ []) (h ++ v ∷ []) more (length h)));
    }

    text_at : IsTextAt f c r front x.entry.id (logged_of job) v
    text_at = record { same = ap (λ (i : Id). i.0) at.id; held = at.text; lawful = lawful }

    telling : (IsTold front x.entry v → ⊥) → IsDamageAt f c r front (Bad 4 (number_text r) x.log.items)
    telling never = at_telling x.entry (logged_of job) v entered text_at (refl, refl, at.log, never)

    other_parents : (IsToldParents x → ⊥) → IsDamageAt f c r front (Bad 4 (number_text r) x.log.items)
    other_parents never = telling (λ told. never (told.parents ∙ stand))

    module _ (known : List Entries) (whole : AllZip HasEntries job.parents known) where
      kept_places : AreKeptAt ks places known
      kept_places = kept_are front (grown_of f c r front x job stands low at) x.parents job.parents known at.parents whole

      are_known : AreKnown known x.next
      are_known = subst (AreKnown known) (sym at.next) (parents_known f (c 2) front.log h ks stands.spelled stands.revisions places known kept_places)

      same : (n : NodeName) → IsSome (entry_of t.tree n) → number_among (all_of known) n ≡ number_among (all_of (all_entries ks)) n
      same n some =
          same_number f (c 2) front.log h ks stands.spelled stands.revisions (logged_of job) v lawful places known kept_places (sym stand) n
          (subst (λ (u : MarkedTree). IsSome (entry_of u.tree n)) own_tree some)

      -- the number that is free behind the parents is the one behind all
      next_is : x.next + length (fresh known t.tree) ≡ next_after front v
      next_is =
          ap (λ n. n + length (fresh known t.tree)) at.next
          ∙ ap (λ (ns : List NodeName). next_of ks + length ns) (same_fresh known (all_entries ks) t.tree same)
          ∙ ap (λ (u : MarkedTree). next_of ks + length (fresh (all_entries ks) u.tree)) own_tree

      other_next : IsOtherNext x t known → IsDamageAt f c r front (Bad 4 (number_text r) x.log.items)
      other_next never = telling (λ told. never are_known (told.next ∙ sym next_is))

      up : AllAscend known
      up = known_ascend h ks stands.revisions places known kept_places

      -- behind a front numbers are due
      some_numbers : HasNoNumbers x known → ⊥
      some_numbers none =
          let most = next_low f (c 2) front.log h ks stands.spelled stands.revisions in
          let next = at.next in
          let kept_long = stands.revisions.long in
          none (within_numbers x.next (next_of ks) (length ks) next most (let l = long in omega (arith, l, kept_long, low))) are_known

      -- and the record that is due can be written
      some_record : HasNoRecord x job t places known → ⊥
      some_record n =
          n.none (subst (λ m. All (λ p. p < m) places) (long ∙ sym at.here) (are_low front (grown_of f c r front x job stands low at) x.parents job.parents at.parents)) up
          h v t next_tree (n.numbered.numbers are_known).spells (long ∙ sym at.here) (subst (λ m. m < 2147483648) (sym at.here) low)

      first_deep : IsFirstDepth ks places (first_depth x.parents)
      first_deep = first_is front (grown_of f c r front x job stands low at) x.parents job.parents at.parents

      -- the record of entries that have the numbers that are due
      module _ (told : IsToldParents x) (entries : Entries) (numbered : IsNumberedOn x t known entries) (body : List ℕ) (deep : ℕ)
          (written : IsRecordOn places known (first_depth x.parents) entries job.at body deep) where
        abbrev new : Kept
        new = record { entries = entries; next = x.entry.next_node; depth = deep }

        own_numbers : IsNumbering known x.next t entries
        own_numbers = numbered.numbers are_known

        over_all : IsNumbering (all_entries ks) x.next t entries
        over_all = numbering_over known (all_entries ks) x.next t entries same own_numbers

        is_told : IsTold front x.entry v
        is_told = record { parents = told ∙ sym stand; next = numbered.next are_known ∙ next_is }

        numbers_over : IsNumbering (all_entries ks) (next_of ks) own entries
        numbers_over = subst (λ (u : MarkedTree). IsNumbering (all_entries ks) (next_of ks) u entries) own_tree (subst (λ n. IsNumbering (all_entries ks) n t entries) at.next over_all)

        all : take (length h) ks ≡ ks
        all = take_past ks (length h) (let l = stands.revisions.long in omega (arith, l))

        is_kept : IsKeptNext h ks v new
        is_kept = record {
          marks = kept.marks;
          marked = kept.marked;
          numbered = subst (λ js. IsNumbering (all_entries js) (next_of js) own entries) (sym all) numbers_over;
          next = subst (λ js. x.entry.next_node ≡ next_of js + length (fresh (all_entries js) v.tree)) (sym all) is_told.next;
          depth = deep_is ks places known (first_depth x.parents) entries job.at body deep kept_places first_deep written ∙ ap (depth_on ks) (sym stand);
        }

        on : (s : RosterRecord) × IsRosterOf ks places new s × IsRosterAt job.at body s
        on =
            roster_on ks places known job.at body (first_depth x.parents) new kept_places first_deep
            up numbered.ascending written

        of : IsRosterOf ks v.parents new on.0
        of = subst (λ ps. IsRosterOf ks ps new on.0) (sym stand) on.1

        formed : IsRosterAt r body on.0
        formed = subst (λ n. IsRosterAt n body on.0) at.here on.2

        -- another record that is due is this one
        sets_of : (k : Kept) (b : List ℕ) (s : RosterRecord) → IsRosterAt r b s → IsRosterOf ks v.parents k s → HaveSets k.entries
        sets_of k b s is there = due_sets ks v.parents k s (front_sets f c r front walked) there is.formed

        never_due : (x.roster.items ≡ body → ⊥) → (k : Kept) (s : RosterRecord) → IsKeptNext h ks v k → IsRosterAt r x.roster.items s → IsRosterOf ks v.parents k s → ⊥
        never_due never k s k_is is there =
            let same_kept : k ≡ new = one_kept h ks v k new grown k_is is_kept (sets_of k x.roster.items s is there) (sets_of new body on.0 formed of) in
            let one : s ≡ on.0 = one_due ks v.parents new s on.0 (subst (λ (z : Kept). IsRosterOf ks v.parents z s) same_kept there) of in
            never (is.whole ∙ ap roster_text one ∙ sym formed.whole)

        other_roster : (x.roster.items ≡ body → ⊥) → IsDamageAt f c r front (Bad 5 (number_text r) x.roster.items)
        other_roster never = at_roster x.entry (logged_of job) v entered text_at is_told (refl, refl, at.roster, never_due never)

      -- the stored entries and the depth are those of the record that is due
      module _ (told : IsToldParents x) (due : IsDueOver x job t places known (first_depth x.parents)) where
        abbrev own_kept : Kept
        own_kept = new told due.entries due.numbered x.roster.items due.deep due.written

        abbrev own_on : (s : RosterRecord) × IsRosterOf ks places own_kept s × IsRosterAt job.at x.roster.items s
        own_on = on told due.entries due.numbered x.roster.items due.deep due.written

        own_given : (at.stored.0 ≡ due.entries) × (x.depth ≡ due.deep)
        own_given =
            let g = at.stored.2 in
            let one : own_on.0 ≡ g.roster = one_roster r x.roster.items x.roster.items own_on.0 g.roster refl (subst (λ n. IsRosterAt n x.roster.items own_on.0) at.here own_on.2) g.text in
            given_is ks x.parents job.parents known own_kept g.roster at.stored.0 x.depth kept_places whole up due.numbered.ascending (subst (IsRosterOf ks places own_kept) one own_on.1) g.given

      pub leads_to : IsToldParents x → IsDueOver x job t places known (first_depth x.parents) → IsStepOf f c r front x job
      leads_to told due = record {
        step = record { logged = logged_of job; revision = v; kept = own_kept told due };
        is = record {
          entry = x.entry;
          entered = entered;
          text = text_at;
          told = is_told told due.entries due.numbered x.roster.items due.deep due.written;
          roster = record {
            kept = is_kept told due.entries due.numbered x.roster.items due.deep due.written;
            body = x.roster.items;
            held = at.roster;
            is = record {
              roster = (own_on told due).0;
              is = of told due.entries due.numbered x.roster.items due.deep due.written;
              text = formed told due.entries due.numbered x.roster.items due.deep due.written;
            };
          };
        };
        id = at.id;
        entries = at.stored.1 ∙ ap Whole (own_given told due).0;
        next = refl;
        depth = sym (own_given told due).1;
      }

      pub roster_unfit : IsToldParents x → IsOtherOver x job t places known (first_depth x.parents) → IsDamageAt f c r front (Bad 5 (number_text r) x.roster.items)
      roster_unfit told o = other_roster told o.entries o.numbered o.body o.deep o.written o.other

    pub log_unfit : (IsToldParents x → ⊥) ⊎ (IsToldParents x × IsFoundWith x job t places job.parents OtherLog) → IsDamageAt f c r front (Bad 4 (number_text r) x.log.items)
    log_unfit (inl never) = other_parents never
    log_unfit (inr other) = other_next other.1.0 other.1.1 other.1.2

    -- so nothing is left undecided
    pub decided : IsFoundWith x job t places job.parents Undecided → ⊥
    decided (inl never) = never (are_whole front (grown_of f c r front x job stands low at) x.parents job.parents at.parents)
    decided (inr (known, whole, inl none)) = some_numbers known whole none
    decided (inr (known, whole, inr none)) = some_record known whole none

pub found_fits : (f : List ℕ → List ℕ) (x : Position) (job : CheckJob) (fit : Fit) → IsFound f x job fit → IsFitting f x job fit
found_fits f x job Fits is = λ c r front walked low at g. leads_to f x job c r front walked low at g is.0 is.1.1.0 is.1.1.1 is.1.0 is.1.1.2
found_fits f x job OtherText is = λ c r front walked low at g. text_unfit f x job c r front walked low at g is
found_fits f x job OtherLog is = λ c r front walked low at g. log_unfit f x job c r front walked low at g is.0 is.1
found_fits f x job OtherRoster is = λ c r front walked low at g. roster_unfit f x job c r front walked low at g is.0 is.1.1.0 is.1.1.1 is.1.0 is.1.1.2
found_fits f x job Undecided is = λ c r front walked low at g. decided f x job c r front walked low at g is.0 is.1.1

-- what is found under the text that was read
pub found_all : (f : List ℕ → List ℕ) (x : Position) (job : CheckJob) (read : Spelled) → IsUnderId f job → IsRevisionOf job.text read → IsTrue x.held → (fit : Fit) → IsFoundUnder f x job read.manifest fit → IsFound f x job fit
found_all f x job read under reads held Fits is = (record { under = under; read = read; reads = reads; held = held; stored = is.0; spelled = is.1; sound = is.2 }, is.3)
found_all f x job read under reads held OtherText is = inr (inr (record { read = read; reads = reads; stored = is.0; spelled = is.1; unsound = is.2 }))
found_all f x job read under reads held OtherLog is = (record { under = under; read = read; reads = reads; held = held; stored = is.0; spelled = is.1; sound = is.2 }, is.3)
found_all f x job read under reads held OtherRoster is = (record { under = under; read = read; reads = reads; held = held; stored = is.0; spelled = is.1; sound = is.2 }, is.3)
found_all f x job read under reads held Undecided is = (record { under = under; read = read; reads = reads; held = held; stored = is.0; spelled = is.1; sound = is.2 }, is.3)

-- what is found over the whole records of the parents
pub found_with : (x : Position) (job : CheckJob) (t : MarkedTree) (places : List ℕ) (records : List RosterRecord) (known : List Entries) → AllZip HasEntries records known → (fit : Fit) → IsFoundOver x job t places known (first_depth x.parents) fit → IsFoundWith x job t places records fit
found_with x job t places records known whole Fits is = (known, whole, is)
found_with x job t places records known whole OtherText is = (known, whole, is)
found_with x job t places records known whole OtherLog is = (known, whole, is)
found_with x job t places records known whole OtherRoster is = (known, whole, is)
found_with x job t places records known whole Undecided is = inr (known, whole, is)
