-- Where a generated history stands, by what its last revision did.
use Rattle.std.specs.Prelude.{codes, decimal, is_none, option_map}
use Rattle.std.specs.FinMap.{get}
use Rattle.std.proofs.Common.{◌≡◌, ◌≢◌, ◌<◌, ◌≤◌, ◌-◌, ◌/◌, ℕ, suc, cond, List, [], ◌∷◌, ◌++◌, length, Some, None, refl, sym, ◌∙◌, ap, subst, inl, inr, arith}
use Rattle.std.proofs.Math.Nat.{mod-lt}
use Rattle.mtn_base.specs.declared.id.Id.{Id}
use Rattle.mtn_base.specs.declared.refusal.Cause.TheVariants.{UnknownFile}
use Rattle.mtn_base.proofs.IdOrder.{contains_head}
use Rattle.mtn_certs.specs.Certificates.{IsIdBytes}
use Rattle.mtn_changeset_laws.specs.Changes.{tree_after}
use Rattle.mtn_generated.specs.Growing.{Adds, GrowthAnswer, Grown, files_refusal, with_files}
use Rattle.mtn_generated.specs.Numbered.{Tips, Work, changes_of, content_of, directory_at, edge_of, file_at, file_text, path_at, work_at}
use Rattle.mtn_generated.specs.Numbered.Work.{Begins, Joins, Patches, Renames, Sets}
use Rattle.mtn_generated.proofs.Texts.{differ as texts_differ}
use Rattle.mtn_generated_laws.proofs.KeptFiles.{files_held, files_keep}
use Rattle.mtn_generated_laws.proofs.Readable.{later_spells}
use Rattle.mtn_generated_laws.proofs.Steps.{AreIds}
use Rattle.mtn_generated_laws.proofs.Held.{files_leave}
use Rattle.mtn_generated_trees.specs.Formed.{IsFormed, is_patch}
use Rattle.mtn_generated_trees.specs.Joined.{AreAt, IsJoined, IsOneTip}
use Rattle.mtn_generated_trees.specs.Joining.{AreTips}
use Rattle.mtn_generated_trees.proofs.Joined.{joined}
use Rattle.mtn_generated_trees.proofs.Staying.{stays}
use Rattle.mtn_generated_trees.proofs.Tips.{are_tips}
use Rattle.mtn_history_laws.specs.History.{IsGrown, Revision, parents_at, tree_at}
use Rattle.mtn_model.specs.State.{Logged, State}
use Rattle.mtn_replay.specs.Lawful.{IsHistory, IsLawful}
use Rattle.mtn_replay.specs.Making.{place_of, unknown_file}
use Rattle.mtn_replay.proofs.Histories.{history_is_grown}
use Rattle.mtn_replay.proofs.Places.{place_within}
use Rattle.mtn_roster.specs.Tree.{IsSane, Tree, node_at}
use Rattle.mtn_roster.specs.declared.entry.Body.TheVariants.{File}
use Rattle.mtn_roster.specs.declared.entry.Entry.{Entry}
use Rattle.mtn_roster.proofs.Forest.{same_some}
use Rattle.mtn_step_laws.proofs.LawfulGrowth.{lawful_files}
use Rattle.mtn_generated_steps.proofs.Fitting.{patch_directory, patch_fits, rename_fits, set_fits}
use Rattle.mtn_generated_steps.proofs.Lengthening.{files_history, parents_on, place_on, tree_on}
use Rattle.mtn_generated_steps.proofs.Moving.{Comes, FitsTree, IsMoved, behind_files, edge_moves}
use Rattle.mtn_generated_steps.proofs.Patching.{at_patch, named_before, patches_it}
use Rattle.mtn_generated_steps.proofs.Short.{edge_short, file_short}

module _ (f : List ℕ → List ℕ) where
  -- both tips are one
  pub record OneTip (i : ℕ) (g : Grown) : Type 0 where
    pub attrs : ℕ
    pub most : attrs ≤ i
    pub one : g.tips.right ≡ g.tips.left
    pub history : List Revision
    pub spelled : IsHistory f g.state.files g.state.log history
    pub place : ℕ
    pub at : place_of history g.tips.left ≡ Some place
    pub form : IsFormed f i attrs (tree_at history place)

  -- left has a patch, behind right
  pub record LeftAhead (i : ℕ) (g : Grown) : Type 0 where
    pub attrs : ℕ
    pub most : attrs ≤ i
    pub differ : content_of f (file_at (suc i)) (suc i - 40) ≢ content_of f (file_at (suc i)) (suc i)
    pub history : List Revision
    pub spelled : IsHistory f g.state.files g.state.log history
    pub parent : ℕ
    pub left : ℕ
    pub at : AreAt history g.tips left parent
    pub parents : parents_at history left ≡ parent ∷ []
    pub tree : tree_at history left ≡ tree_after (tree_at history parent) (changes_of f (suc i) Patches) g.tips.left
    pub form : IsFormed f (suc i) attrs (tree_at history left)
    pub form_before : IsFormed f i attrs (tree_at history parent)

  -- and right has an attribute
  pub record BothAhead (i : ℕ) (g : Grown) : Type 0 where
    pub attrs : ℕ
    pub most : attrs ≤ i
    pub history : List Revision
    pub spelled : IsHistory f g.state.files g.state.log history
    pub parent : ℕ
    pub left : ℕ
    pub right : ℕ
    pub at : AreAt history g.tips left right
    pub kin : AreTips history parent left right
    pub of_left : IsFormed f (suc i) attrs (tree_at history left)
    pub of_right : IsFormed f i (suc (suc i)) (tree_at history right)

  -- by what the last of n revisions did
  abbrev pub StandsBy : Work → ℕ → Grown → Type 0
  StandsBy Begins n g = OneTip n g
  StandsBy Joins n g = OneTip n g
  StandsBy Renames n g = OneTip n g
  StandsBy Patches n g = (i : ℕ) × (n ≡ suc i) × LeftAhead i g
  StandsBy Sets n g = (i : ℕ) × (n ≡ suc (suc i)) × BothAhead i g

  pub record WorkStands (w : Work) (n : ℕ) (g : Grown) : Type 0 where
    pub room : length g.state.log ≤ n
    pub by : StandsBy w n g

same_file : {a b : Id} → File a ≡ File b → a ≡ b
same_file e = cc

module _ (f : List ℕ → List ℕ) (makes : (text : List ℕ) → IsIdBytes (f text)) where
  -- ---- a patch

  module _ (i : ℕ) (some : 0 < i) (low : i < 2147483648) (g : Grown) (law : IsLawful f g.state) (room : length g.state.log ≤ i) (tip : OneTip f i g) (ids : AreIds g.tips) (work : work_at (suc i) ≡ Patches)
      (was : get g.state.files (f (file_text (file_at (suc i)) (suc i - 40))) ≡ Some (file_text (file_at (suc i)) (suc i - 40))) where
    abbrev j : ℕ
    j = file_at (suc i)

    few : j < 10
    few = mod-lt (suc i / 4) (omega arith)

    abbrev its_files : List (List ℕ)
    its_files = file_text j (suc i) ∷ []

    abbrev s : State
    s = with_files f g.state its_files

    module _ (fine : files_refusal f g.state its_files ≡ None) where
      -- the new content has an id of its own
      new_content : content_of f j (suc i - 40) ≢ content_of f j (suc i)
      new_content same =
          let old : get s.files (f (file_text j (suc i - 40))) ≡ Some (file_text j (suc i - 40)) = files_keep f its_files g.state fine (f (file_text j (suc i - 40))) (file_text j (suc i - 40)) was in
          let new : get s.files (f (file_text j (suc i))) ≡ Some (file_text j (suc i)) = files_held f its_files g.state (file_text j (suc i)) fine (contains_head (file_text j (suc i)) []) in
          let one = same_some old (ap (get s.files) (ap (λ (x : Id). x.0) same) ∙ new) in
          let numbers = texts_differ j (suc i - 40) j (suc i) (omega (arith, few)) (omega (arith, low)) (omega (arith, few)) (omega (arith, low)) one in
          let equal = numbers.1 in
          omega (arith, equal)

      is : IsHistory f s.files s.log tip.history
      is = files_history f its_files g.state tip.history fine tip.spelled

      abbrev t : Tree
      t = tree_at tip.history tip.place

      sane : IsSane t
      sane = (history_is_grown f g.state.files g.state.log tip.history tip.spelled).sane tip.place (place_within tip.history g.tips.left tip.place tip.at)

      fits : FitsTree f t (changes_of f (suc i) Patches) (suc i) tip.attrs
      fits = patch_fits f i tip.attrs t sane tip.form some (omega (arith, low)) work new_content

      held : unknown_file s.files (edge_of f (suc i) Patches g.tips ∷ []) ≡ None
      held = ap (λ o. option_map UnknownFile (cond (is_none o) (Some (content_of f j (suc i))) None)) (files_held f its_files g.state (file_text j (suc i)) fine (contains_head (file_text j (suc i)) []))

      abbrev Moved : Grown → Type 0
      Moved h = IsMoved f s tip.history Patches g.tips g.tips.left tip.place (changes_of f (suc i) Patches) (suc i) tip.attrs h

      stands : (h : Grown) → Moved h → WorkStands f Patches (suc i) h
      stands h m =
          let grown_more = history_is_grown f h.state.files h.state.log m.history m.spelled in
          let left : m.id ≡ h.tips.left = sym (ap (λ (x : Tips). x.left) m.behind) in
          let right : g.tips.left ≡ h.tips.right = sym (ap (λ (x : Tips). x.right) m.behind ∙ tip.one) in
          let before : tree_at m.history m.child.above ≡ t = ap (tree_at m.history) m.above ∙ tree_on tip.history m.history m.extends grown_more g.tips.left tip.place tip.at in
          let leave = files_leave f its_files g.state in
          record {
            room = let longer = m.longer in let same = ap (λ (l : List Logged). length l) leave in omega (arith, longer, same, room);
            by = (
              i,
              refl,
              record {
                attrs = tip.attrs;
                most = tip.most;
                differ = new_content;
                history = m.history;
                spelled = m.spelled;
                parent = m.child.above;
                left = m.child.place;
                at = record { left_at = ap (place_of m.history) (sym left) ∙ m.child.at; right_at = ap (place_of m.history) (sym right) ∙ m.child.parent_at };
                parents = m.child.parents;
                tree = m.child.tree ∙ ap (tree_after (tree_at m.history m.child.above) (changes_of f (suc i) Patches)) left;
                form = m.form;
                form_before = subst (IsFormed f i tip.attrs) (sym before) tip.form;
              },
            );
          }

    pub patch_step : (answer : GrowthAnswer) → Adds f (suc i) Patches g answer → Comes (WorkStands f Patches (suc i)) answer
    patch_step answer adds = behind_files f (suc i) Patches g (λ e. cc) answer (file_short j (suc i) (omega (arith, few)) (omega (arith, low)), tt) adds (WorkStands f Patches (suc i))
        (λ fine puts put.
        let leave = files_leave f its_files g.state in
        let same = ap (λ (l : List Logged). length l) leave in
        to fine (edge_moves f s (lawful_files f its_files g.state law fine) tip.history (is fine) (omega (arith, same, room, low)) Patches g.tips (suc i) g.tips.left tip.place refl tip.at (suc i) tip.attrs (fits fine) (held fine)
        (later_spells f makes tip.history (suc i) Patches g.tips (omega (arith, low)) ids.left ids.right (λ e. cc) (λ e. cc))
        (edge_short f makes tip.history (suc i) Patches g.tips (omega (arith, low)) (λ e. absurd cc) ids.left ids.right) answer puts put))
      where
        to : (fine : files_refusal f g.state its_files ≡ None) → Comes (Moved fine) answer → Comes (WorkStands f Patches (suc i)) answer
        to fine (inl a) = inl (a.0, a.1, stands fine a.0 a.2)
        to fine (inr c) = inr c

  -- ---- a rename

  module _ (i : ℕ) (some : 0 < i) (low : i < 2147483648) (g : Grown) (law : IsLawful f g.state) (room : length g.state.log ≤ i) (tip : OneTip f i g) (ids : AreIds g.tips) (work : work_at (suc i) ≡ Renames) where
    abbrev tree_then : Tree
    tree_then = tree_at tip.history tip.place

    sane_then : IsSane tree_then
    sane_then = (history_is_grown f g.state.files g.state.log tip.history tip.spelled).sane tip.place (place_within tip.history g.tips.left tip.place tip.at)

    moves : FitsTree f tree_then (changes_of f (suc i) Renames) (suc i) tip.attrs
    moves = rename_fits f i tip.attrs tree_then sane_then tip.form some (omega (arith, low)) work

    abbrev Renamed : Grown → Type 0
    Renamed h = IsMoved f g.state tip.history Renames g.tips g.tips.left tip.place (changes_of f (suc i) Renames) (suc i) tip.attrs h

    renamed_stands : (h : Grown) → Renamed h → WorkStands f Renames (suc i) h
    renamed_stands h m =
        let left : m.id ≡ h.tips.left = sym (ap (λ (x : Tips). x.left) m.behind) in
        record {
          room = let longer = m.longer in omega (arith, longer, room);
          by = record {
            attrs = tip.attrs;
            most = let most = tip.most in omega (arith, most);
            one = ap (λ (x : Tips). x.right) m.behind ∙ left;
            history = m.history;
            spelled = m.spelled;
            place = m.child.place;
            at = ap (place_of m.history) (sym left) ∙ m.child.at;
            form = m.form;
          };
        }

    pub rename_step : (answer : GrowthAnswer) → Adds f (suc i) Renames g answer → Comes (WorkStands f Renames (suc i)) answer
    rename_step answer adds = behind_files f (suc i) Renames g (λ e. cc) answer tt adds (WorkStands f Renames (suc i))
        (λ fine puts put. to (edge_moves f g.state law tip.history tip.spelled (omega (arith, room, low)) Renames g.tips (suc i) g.tips.left tip.place refl tip.at (suc i) tip.attrs moves refl
        (later_spells f makes tip.history (suc i) Renames g.tips (omega (arith, low)) ids.left ids.right (λ e. cc) (λ e. cc))
        (edge_short f makes tip.history (suc i) Renames g.tips (omega (arith, low)) (λ e. absurd cc) ids.left ids.right) answer puts put))
      where
        to : Comes Renamed answer → Comes (WorkStands f Renames (suc i)) answer
        to (inl a) = inl (a.0, a.1, renamed_stands a.0 a.2)
        to (inr c) = inr c

  -- ---- an attribute

  module _ (i : ℕ) (some : 0 < i) (low : suc i < 2147483648) (g : Grown) (law : IsLawful f g.state) (room : length g.state.log ≤ suc i) (ahead : LeftAhead f i g) (ids : AreIds g.tips)
      (work_before : work_at (suc i) ≡ Patches) (work : work_at (suc (suc i)) ≡ Sets) where
    abbrev n : ℕ
    n = suc (suc i)

    abbrev tree_right : Tree
    tree_right = tree_at ahead.history ahead.parent

    grown_then : IsGrown ahead.history
    grown_then = history_is_grown f g.state.files g.state.log ahead.history ahead.spelled

    sane_right : IsSane tree_right
    sane_right = grown_then.sane ahead.parent (place_within ahead.history g.tips.right ahead.parent ahead.at.right_at)

    same_directory : directory_at (suc i) ≡ directory_at i
    same_directory = patch_directory f i ahead.attrs tree_right sane_right ahead.form_before some work_before

    gives : FitsTree f tree_right (changes_of f n Sets) i n
    gives = set_fits f i ahead.attrs tree_right sane_right ahead.form_before some ahead.most (omega (arith, low)) work_before work

    abbrev GotSet : Grown → Type 0
    GotSet h = IsMoved f g.state ahead.history Sets g.tips g.tips.right ahead.parent (changes_of f n Sets) i n h

    -- the sides are not one revision: a file has other contents
    apart : (more : List Revision) (l r : ℕ) → IsFormed f (suc i) ahead.attrs (tree_at more l) → IsFormed f i n (tree_at more r) → l ≢ r
    apart more l r of_left of_right same =
        let j = file_at (suc i) in
        let few = mod-lt (suc i / 4) (omega arith) in
        let a = of_left.files j few in
        let b = of_right.files j few in
        let path = ap (λ d. d ∷ (codes "f" ++ decimal j) ∷ []) same_directory in
        let one = same_some b.1 (ap (λ k. node_at (tree_at more k) (path_at i j)) (sym same) ∙ ap (node_at (tree_at more l)) (sym path) ∙ a.1) in
        let contents = sym b.2.content ∙ ap (λ (e : Entry). e.body) one ∙ a.2.content in
        ahead.differ (ap (content_of f j) (sym (named_before i work_before)) ∙ same_file contents ∙ ap (content_of f j) (at_patch (suc i) j (patches_it (suc i) j work_before refl)))

    set_stands : (h : Grown) → GotSet h → WorkStands f Sets n h
    set_stands h m =
        let grown_more = history_is_grown f h.state.files h.state.log m.history m.spelled in
        let left : h.tips.left ≡ g.tips.left = ap (λ (x : Tips). x.left) m.behind in
        let right : h.tips.right ≡ m.id = ap (λ (x : Tips). x.right) m.behind in
        let parents = parents_on ahead.history m.history m.extends grown_more g.tips.left ahead.left ahead.at.left_at ∙ ahead.parents ∙ ap (λ k. k ∷ []) (sym m.above) in
        let old_left = tree_on ahead.history m.history m.extends grown_more g.tips.left ahead.left ahead.at.left_at in
        let old_right = tree_on ahead.history m.history m.extends grown_more g.tips.right ahead.parent ahead.at.right_at in
        let of_left = subst (IsFormed f (suc i) ahead.attrs) (sym old_left) ahead.form in
        let patched = old_left ∙ ahead.tree ∙ ap (λ u. tree_after u (changes_of f (suc i) Patches) g.tips.left) (sym old_right ∙ ap (tree_at m.history) (sym m.above)) in
        record {
          room = let longer = m.longer in omega (arith, longer, room);
          by = (
            i,
            refl,
            record {
              attrs = ahead.attrs;
              most = ahead.most;
              history = m.history;
              spelled = m.spelled;
              parent = m.child.above;
              left = ahead.left;
              right = m.child.place;
              at = record {
                left_at = ap (place_of m.history) left ∙ place_on ahead.history m.history m.extends grown_more g.tips.left ahead.left ahead.at.left_at;
                right_at = ap (place_of m.history) right ∙ m.child.at;
              };
              kin = are_tips m.history m.child.above ahead.left m.child.place (path_at (suc i) (file_at (suc i))) (path_at n (file_at n)) (content_of f (file_at (suc i)) (suc i - 40)) (content_of f (file_at (suc i)) (suc i)) g.tips.left m.id
                  (codes "gen:step") (decimal n) (apart m.history ahead.left m.child.place of_left m.form) parents m.child.parents patched m.child.tree;
              of_left = of_left;
              of_right = m.form;
            },
          );
        }

    pub set_step : (answer : GrowthAnswer) → Adds f n Sets g answer → Comes (WorkStands f Sets n) answer
    set_step answer adds = behind_files f n Sets g (λ e. cc) answer tt adds (WorkStands f Sets n)
        (λ fine puts put. to (edge_moves f g.state law ahead.history ahead.spelled (omega (arith, room, low)) Sets g.tips n g.tips.right ahead.parent refl ahead.at.right_at i n gives refl
        (later_spells f makes ahead.history n Sets g.tips (omega (arith, low)) ids.left ids.right (λ e. cc) (λ e. cc))
        (edge_short f makes ahead.history n Sets g.tips (omega (arith, low)) (λ e. absurd cc) ids.left ids.right) answer puts put))
      where
        to : Comes GotSet answer → Comes (WorkStands f Sets n) answer
        to (inl a) = inl (a.0, a.1, set_stands a.0 a.2)
        to (inr c) = inr c

  -- ---- a merge

  module _ (i : ℕ) (some : 0 < i) (low : suc (suc i) < 2147483648) (g : Grown) (law : IsLawful f g.state) (room : length g.state.log ≤ suc (suc i)) (ahead : BothAhead f i g)
      (work_before : work_at (suc (suc i)) ≡ Sets) (work : work_at (suc (suc (suc i))) ≡ Joins) where
    joined_stands : (h : Grown) → IsOneTip f (suc i) (suc (suc i)) g.state h → WorkStands f Joins (suc (suc (suc i))) h
    joined_stands h tip = record {
      room = let longer = tip.longer in omega (arith, longer, room);
      by = record {
        attrs = suc (suc i);
        most = omega arith;
        one = tip.one;
        history = tip.history;
        spelled = tip.spelled;
        place = tip.place;
        at = tip.at;
        form = stays f (suc (suc i)) (suc (suc i)) (omega arith) (ap is_patch work) (λ e. let z : Joins ≡ Renames = sym work ∙ e in cc) (tree_at tip.history tip.place)
            (stays f (suc i) (suc (suc i)) (omega arith) (ap is_patch work_before) (λ e. let z : Sets ≡ Renames = sym work_before ∙ e in cc) (tree_at tip.history tip.place) tip.form);
      };
    }

    pub merge_step : (answer : GrowthAnswer) → Adds f (suc (suc (suc i))) Joins g answer → Comes (WorkStands f Joins (suc (suc (suc i)))) answer
    merge_step answer adds = to (joined f makes g.state law ahead.history ahead.spelled (omega (arith, room, low)) g.tips ahead.parent ahead.left ahead.right ahead.at ahead.kin (suc i) ahead.attrs i (suc (suc i))
        (omega (arith, low)) (let most = ahead.most in omega (arith, most, low)) (omega (arith, low)) (omega (arith, low)) ahead.of_left ahead.of_right answer adds)
      where
        to : IsJoined f (suc i) (suc (suc i)) g.state answer → Comes (WorkStands f Joins (suc (suc (suc i)))) answer
        to (inl a) = inl (a.0, a.1, joined_stands a.0 a.2)
        to (inr c) = inr c
