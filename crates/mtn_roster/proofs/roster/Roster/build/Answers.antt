-- By the sorts and the tests.
use Rattle.std.proofs.Common.{◌≡◌, ◌++◌, ℕ, Bool, List, true, false, length, take, drop, map, Err, refl, sym, ◌∙◌, ap, subst}
use Rattle.std.specs.Prelude.{Result, IsTrue, ◌↔◌}
use Rattle.std.specs.List.{AllByRecursion}
use Rattle.std.proofs.lemmas.Result.{err_from_is_err_and}
use Rattle.mtn_base.specs.Names.{name_cmp}
use Rattle.mtn_roster.specs.declared.build.BuildError.{BuildError}
use Rattle.mtn_roster.specs.declared.build.BuildError.TheVariants.{Insane}
use Rattle.mtn_roster.specs.declared.entry.Entry.{Entry}
use Rattle.mtn_roster.specs.Tree.{Tree, entry_of, in_order, IsSane, IsSaneMap}
use Rattle.mtn_base.specs.Lists.{rises}
use Rattle.mtn_roster.specs.Index.{IsIndex}
use Rattle.mtn_roster.specs.Building.{NamesDiffer, KeysDiffer, with_keys_in_order, tree_of, AreUps}
use Rattle.mtn_roster.proofs.Ordered.{in_order-rises}
use Rattle.std.proofs.Math.Seq.{take-append_seam}
use Rattle.mtn_base.proofs.Sorting.{long_map}
use Rattle.mtn_roster.proofs.Building.{differ_still, differed, made_sane}
use Rattle.mtn_roster.proofs.roster.Roster.build.Goals as goal

handed : {T : Type 0} (r : Result T BuildError) (y d : BuildError) → r ≡ Err y → y ≡ d → r ≡ Err Insane → d ≡ Insane
handed r y d p q h = cc

-- what was written back through the slice
written : (es slice new : List Entry) (n : ℕ) → length slice ≡ n → slice ≡ es → new ≡ map with_keys_in_order slice → take n (new ++ drop (length new) es) ≡ map with_keys_in_order es
written es slice new n long same is =
    ap (λ k. take k (new ++ drop (length new) es)) (sym long ∙ sym (long_map with_keys_in_order slice) ∙ sym (ap length is))
    ∙ take-append_seam new (drop (length new) es) ∙ is ∙ ap (map with_keys_in_order) same

-- the names of what was written back
told : (es back : List Entry) (b : Bool) → back ≡ map with_keys_in_order es → b ≡ true ↔ NamesDiffer back → b ≡ true ↔ NamesDiffer es
told es back b is h = (
  λ e. differed with_keys_in_order (λ e. refl) es (subst NamesDiffer is (h.0 e)),
  λ d. h.1 (subst NamesDiffer (sym is) (differ_still with_keys_in_order (λ e. refl) es d)),
)

pub returns-then-not-sort_names-clause-insane : goal.returns-then-not-sort_names-clause-insane
returns-then-not-sort_names-clause-insane c =
    let back : take c.args.entries.len (c.sort_all_keys.new.entries ++ drop (length c.sort_all_keys.new.entries) c.args.entries.items) ≡ map with_keys_in_order c.args.entries.items = written c.args.entries.items c.deref_mut.result.now c.sort_all_keys.new.entries c.args.entries.len c.deref_mut.ensures.len c.deref_mut.ensures.value (c.if-not-sort_all_keys.ensures.order refl) in
    λ _ b. let f = (told c.args.entries.items _ false back c.if-not-sort_names.ensures.apart).1 b.names in absurd cc

pub returns-in_err-ups-clause-insane : goal.returns-in_err-ups-clause-insane
returns-in_err-ups-clause-insane c =
    let es = c.args.entries.items in
    let back : take c.args.entries.len (c.sort_all_keys.new.entries ++ drop (length c.sort_all_keys.new.entries) es) ≡ map with_keys_in_order es = written c.args.entries.items c.deref_mut.result.now c.sort_all_keys.new.entries c.args.entries.len c.deref_mut.ensures.len c.deref_mut.ensures.value (c.if-not-sort_all_keys.ensures.order refl) in
    let made : c.deref.result.now ≡ tree_of es = c.deref.ensures.value ∙ c.if-not-sort_names.ensures.order refl ∙ ap in_order back in
    λ h b.
    let p = err_from_is_err_and c.from_residual.result c.from_residual.ensures.1 in
    c.in_err-ups.ensures.insane (ap Err (handed c.from_residual.result p.0 c.in_err-ups.field-0.0 p.1 p.2 h))
    (subst (λ (t : Tree). IsSaneMap (entry_of t)) (sym made) b.sane)

pub checked_index-requires : goal.checked_index-requires
checked_index-requires c =
    let es = c.args.entries.items in
    let back : take c.args.entries.len (c.sort_all_keys.new.entries ++ drop (length c.sort_all_keys.new.entries) es) ≡ map with_keys_in_order es = written c.args.entries.items c.deref_mut.result.now c.sort_all_keys.new.entries c.args.entries.len c.deref_mut.ensures.len c.deref_mut.ensures.value (c.if-not-sort_all_keys.ensures.order refl) in
    let made : c.deref.result.now ≡ tree_of es = c.deref.ensures.value ∙ c.if-not-sort_names.ensures.order refl ∙ ap in_order back in
    record { rising = subst (λ (t : Tree). IsTrue (rises name_cmp (map (λ (e : Entry). e.name) t))) (sym made) (in_order-rises (map with_keys_in_order es)) }

pub invariant_of-result : goal.invariant_of-result
invariant_of-result c =
    let es = c.args.entries.items in
    let back : take c.args.entries.len (c.sort_all_keys.new.entries ++ drop (length c.sort_all_keys.new.entries) es) ≡ map with_keys_in_order es = written c.args.entries.items c.deref_mut.result.now c.sort_all_keys.new.entries c.args.entries.len c.deref_mut.ensures.len c.deref_mut.ensures.value (c.if-not-sort_all_keys.ensures.order refl) in
    let made : c.sort_names.new.entries.items ≡ tree_of es = c.if-not-sort_names.ensures.order refl ∙ ap in_order back in (
      subst IsSane (sym made) (made_sane es (subst (λ (t : Tree). IsSaneMap (entry_of t)) (c.deref.ensures.value ∙ made) c.in_ok-ups.ensures.ok)),
      subst (λ (t : Tree). IsIndex t c.in_ok-ups.by_slot.items) c.deref.ensures.value c.in_ok-ups.ensures.index,
      subst (λ (t : Tree). AreUps t c.in_ok-ups.ups.items) c.deref.ensures.value c.in_ok-ups.ensures.ups,
    )

pub returns-clause-made : goal.returns-clause-made
returns-clause-made c =
    let es = c.args.entries.items in
    let back : take c.args.entries.len (c.sort_all_keys.new.entries ++ drop (length c.sort_all_keys.new.entries) es) ≡ map with_keys_in_order es = written c.args.entries.items c.deref_mut.result.now c.sort_all_keys.new.entries c.args.entries.len c.deref_mut.ensures.len c.deref_mut.ensures.value (c.if-not-sort_all_keys.ensures.order refl) in
    let made : c.sort_names.new.entries.items ≡ tree_of es = c.if-not-sort_names.ensures.order refl ∙ ap in_order back in
    record {
      names = (told es _ true back c.if-not-sort_names.ensures.apart).0 refl;
      keys = subst (λ (xs : List Entry). AllByRecursion KeysDiffer xs) c.deref_mut.ensures.value (c.if-not-sort_all_keys.ensures.apart.0 refl);
      sane = subst (λ (t : Tree). IsSaneMap (entry_of t)) (c.deref.ensures.value ∙ made) c.in_ok-ups.ensures.ok;
    }
