-- Contents without damage stand for a state, and contents that stand for a state have no damage.
use Rattle.std.specs.Prelude.{bytes_eq, IsSome}
use Rattle.std.proofs.Common.{◌≡◌, ℕ, Bool, true, false, cond, List, [], length, Option, Some, None, refl, sym, ap, ◌∙◌, subst, ◌⊎◌, ⊎_elim, inl, inr}
use Rattle.std.proofs.lemmas.Cmp.{nat_list_cmp_total}
use Rattle.std.proofs.lemmas.Slice.Eq.{bytes_eq-Decides}
use Rattle.std.specs.FinMap.{get, insert, empty, get-empty, same_map, slice_cmp-IsAntisymmetric, nat_cmp-IsAntisymmetric}
use Rattle.std.specs.Ordering.{nat_cmp}
use Rattle.std.specs.Cmp.Lexicographic.{slice_cmp}
use Rattle.mtn_certs.specs.Certificates.{Certificate}
use Rattle.mtn_replay.specs.Lawful.{IsHistory, IsLawful}
use Rattle.mtn_replay.specs.Texts.{text_under}
use Rattle.mtn_replay.proofs.Histories.{log_is_short}
use Rattle.mtn_model.specs.State.{Certificates, Holds, State, empty_state}
use Rattle.mtn_model.specs.Table.{Table, Contents, body_at, nothing, no_table}
use Rattle.mtn_records.specs.Fields.{number_text}
use Rattle.mtn_history.specs.Certificates.{IsCertKey}
use Rattle.mtn_history.specs.Meta.{meta_of, count_key, version_key, version}
use Rattle.mtn_history.specs.Stands.{StandsFor, IsNew, Stands}
use Rattle.mtn_replay.proofs.FileLemmas.{get_inserted, found_more}
use Rattle.mtn_history.proofs.MetaLemmas.{held_count, held_version, none_held}
use Rattle.mtn_check_laws.specs.Fronts.{Front, StandsTo}
use Rattle.mtn_check_laws.specs.FirstDamage.{IsCount, IsCertOf, HoldsNothing, IsWhole, IsClean}
use Rattle.mtn_check_laws.proofs.Walks.{one_body}
use Rattle.mtn_check_laws.proofs.Standing.{front_stands}
use Rattle.mtn_check_laws.proofs.Cutting.{stands_walk}
use Rattle.mtn_check_laws.proofs.Certs.{certs, cert_of_key, key_of_cert}

clash : (o : Option (List ℕ)) (body : List ℕ) → o ≡ Some body → o ≡ None → ⊥
clash o body there none = cc

pub no_get : (t : Table) (k : List ℕ) → ((b : List ℕ) → get t k ≡ Some b → ⊥) → get t k ≡ None
no_get t k never = by (get t k) refl
  where
    by : (o : Option (List ℕ)) → get t k ≡ o → o ≡ None
    by None is = refl
    by (Some b) is = absurd (never b is)

pub none_in : (t : Table) → ((k b : List ℕ) → get t k ≡ Some b → ⊥) → t ≡ no_table
none_in t never = same_map nat_list_cmp_total (slice_cmp-IsAntisymmetric nat_cmp-IsAntisymmetric) t empty
    (λ q. no_get t q (never q) ∙ sym (get-empty (slice_cmp nat_cmp) q))

module _ (f : List ℕ → List ℕ) (c : Contents) where
  module _ (w : IsWhole f c) where
    abbrev count : IsCount c w.number
    count = w.walked.begun.count

    meta_get : (q : List ℕ) → get (meta_of version w.number) q ≡ cond (bytes_eq q version_key) (Some version) (cond (bytes_eq q count_key) (Some (number_text w.number)) None)
    meta_get q = get_inserted (insert empty count_key (number_text w.number)) version_key version q
        ∙ ap (λ o. cond (bytes_eq q version_key) (Some version) o) (get_inserted empty count_key (number_text w.number) q
        ∙ ap (λ o. cond (bytes_eq q count_key) (Some (number_text w.number)) o) (get-empty (slice_cmp nat_cmp) q))

    meta_at : (q : List ℕ) → get (c 1) q ≡ get (meta_of version w.number) q
    meta_at q = by (bytes_eq q version_key) (bytes_eq q count_key) refl refl ∙ sym (meta_get q)
      where
        other : (k : List ℕ) → bytes_eq q k ≡ false → q ≡ k → ⊥
        other k differ is = let both : true ≡ false = sym ((bytes_eq-Decides q k).1 is) ∙ differ in absurd cc

        by : (s t : Bool) → bytes_eq q version_key ≡ s → bytes_eq q count_key ≡ t → get (c 1) q ≡ cond s (Some version) (cond t (Some (number_text w.number)) None)
        by true t is more = ap (get (c 1)) ((bytes_eq-Decides q version_key).0 is) ∙ w.walked.begun.version
        by false true differ is = ap (get (c 1)) ((bytes_eq-Decides q count_key).0 is) ∙ count.held
        by false false differ neither = no_get (c 1) q (λ b h. ⊎_elim (other count_key neither) (other version_key differ) (w.walked.begun.meta 1 q b h refl))

    -- a certificate of a key of table 8
    record IsOf (k : List ℕ) (x : Certificate) : Type 0 where
      is : IsCertKey k x
      spoken_of : IsSome (text_under w.front.log x.revision.0)
      held : get (c 8) k ≡ Some []

    cert_at : (k b : List ℕ) → get (c 8) k ≡ Some b → (x : Certificate) × IsOf k x
    cert_at k b at = let o = w.certs 8 k b at refl in (o.cert, record { is = o.is; spoken_of = o.spoken_of; held = at ∙ ap Some o.bare })

    abbrev own_certs : Certificates
    own_certs = certs IsOf (c 8) cert_at

    key_of : (x : Certificate) → Holds own_certs x → (k : List ℕ) × IsOf k x
    key_of x held = key_of_cert IsOf (c 8) cert_at x held

    abbrev own : State
    own = record { files = c 2; log = w.front.log; certs = own_certs; keys = c 7 }

    own_lawful : IsLawful f own
    own_lawful = record {
      files = record { sizes = λ id b h. (w.walked.begun.files 2 id b h refl).0; ids = λ id b h. (w.walked.begun.files 2 id b h refl).1 };
      history = w.front.history;
      log = (front_stands f c w.number w.front w.walked.positions).spelled;
      certs = record {
        lawful = λ x held. (key_of x held).1.is.lawful;
        revisions = λ x held. (key_of x held).1.is.revision;
        keys = λ x held. (key_of x held).1.is.made_by;
      };
      spoken_of = λ x held. (key_of x held).1.spoken_of;
      keys = record { ids = λ id name h. (w.names 7 id name h refl).0; names = λ id name h. (w.names 7 id name h refl).1 };
    }

    own_stands : StandsFor f c own
    own_stands =
        let s = front_stands f c w.number w.front w.walked.positions in
        record {
          lawful = own_lawful;
          base = record {
            meta = same_map nat_list_cmp_total (slice_cmp-IsAntisymmetric nat_cmp-IsAntisymmetric) (c 1) (meta_of version w.number) meta_at ∙ ap (meta_of version) (sym s.long);
            files = refl;
            texts = record { each = s.texts; only = λ id body h. (w.placed 3 id body h).text refl };
            history = w.front.history;
            spelled = s.spelled;
            kept = w.front.kept;
            revisions = s.revisions;
            log = record { each = s.log; only = λ key body h. (w.placed 4 key body h).log refl };
            rosters = record { each = s.rosters; only = λ key body h. (w.placed 5 key body h).roster refl };
          };
          keys = refl;
          certs = record {
            each = λ x held. let k = key_of x held in ap (get (c 8)) (sym k.1.is.whole) ∙ k.1.held;
            only = λ k b at. let o = cert_of_key IsOf (c 8) cert_at k b at in (o.0, o.2, o.1.is.whole);
          };
          others = λ t other. none_in (c t) (λ k b h. w.walked.begun.used t k b h other);
        }

  holds_none : HoldsNothing c → c ≡ nothing
  holds_none h = λ i t. none_in (c t) (λ k b at. h.none t k b at) i

  -- a state for which contents without damage stand
  pub clean_stands : IsClean f c → (s : State) × Stands f c s
  clean_stands (inl none) = (empty_state, inl (record { records = holds_none none; state = refl }))
  clean_stands (inr w) = (own w, inr (own_stands w))

  module _ (s : State) (stands : StandsFor f c s) where
    abbrev pub front : Front
    front = record { log = s.log; history = stands.base.history; kept = stands.base.kept }

    pub to_end : StandsTo f c (length s.log) front
    to_end = record {
      long = refl;
      spelled = subst (λ t. IsHistory f t s.log stands.base.history) (sym stands.base.files) stands.base.spelled;
      revisions = stands.base.revisions;
      texts = stands.base.texts.each;
      log = stands.base.log.each;
      rosters = stands.base.rosters.each;
    }

    meta_key : (k b : List ℕ) → get (c 1) k ≡ Some b → (k ≡ count_key) ⊎ (k ≡ version_key)
    meta_key k b h = ⊎_elim (λ new. inr new.0) (λ old. ⊎_elim (λ new. inl new.0) (λ none. absurd (clash (get empty k) b none (get-empty (slice_cmp nat_cmp) k)))
        (found_more empty count_key (number_text (length s.log)) k b old))
        (found_more (insert empty count_key (number_text (length s.log))) version_key version k b (sym (ap (λ (m : Table). get m k) stands.base.meta) ∙ h))

    table_of : (t u : ℕ) (k b : List ℕ) → t ≡ u → body_at c t k ≡ Some b → body_at c u k ≡ Some b
    table_of t u k b e h = subst (λ n. body_at c n k ≡ Some b) e h

    file_of : (t : ℕ) (k b : List ℕ) → body_at c t k ≡ Some b → t ≡ 2 → get s.files k ≡ Some b
    file_of t k b h e = ap (λ (m : Table). get m k) (sym stands.base.files) ∙ table_of t 2 k b e h

    record_at : (t : ℕ) (k b : List ℕ) → body_at c t k ≡ Some b → t ≡ 8 → IsCertOf front k b
    record_at t k b h e =
        let at = table_of t 8 k b e h in
        let o = stands.certs.only k b at in
        let law = stands.lawful.certs in
        record {
          cert = o.0;
          is = record { whole = o.2; lawful = law.lawful o.0 o.1; revision = law.revisions o.0 o.1; made_by = law.keys o.0 o.1 };
          spoken_of = stands.lawful.spoken_of o.0 o.1;
          bare = one_body (body_at c 8 k) b [] at (ap (body_at c 8) o.2 ∙ stands.certs.each o.0 o.1);
        }

    name_at : (t : ℕ) (k b : List ℕ) → body_at c t k ≡ Some b → t ≡ 7 → get s.keys k ≡ Some b
    name_at t k b h e = ap (λ (m : Table). get m k) (sym stands.keys) ∙ table_of t 7 k b e h

    pub stands_whole : IsWhole f c
    stands_whole = record {
      number = length s.log;
      front = front;
      walked = record {
        begun = record {
          count = record { held = held_count f c s stands; limit = log_is_short f s.files s.log stands.base.history stands.base.spelled };
          version = held_version f c s stands;
          meta = λ t k b h e. meta_key k b (table_of t 1 k b e h);
          used = λ t k b h other. clash (body_at c t k) b h (ap (λ (m : Table). get m k) (stands.others t other) ∙ get-empty (slice_cmp nat_cmp) k);
          files = λ t k b h e. (stands.lawful.files.sizes k b (file_of t k b h e), stands.lawful.files.ids k b (file_of t k b h e));
        };
        positions = stands_walk f c (length s.log) front to_end;
      };
      placed = λ t k b h. record {
        text = λ e. stands.base.texts.only k b (table_of t 3 k b e h);
        log = λ e. stands.base.log.only k b (table_of t 4 k b e h);
        roster = λ e. stands.base.rosters.only k b (table_of t 5 k b e h);
      };
      names = λ t k b h e. (stands.lawful.keys.ids k b (name_at t k b h e), stands.lawful.keys.names k b (name_at t k b h e));
      certs = λ t k b h e. record_at t k b h e;
    }

  new_nothing : (s : State) → IsNew c s → HoldsNothing c
  new_nothing s new = record {
    count = none_held c s count_key new;
    none = λ t k b h. clash (body_at c t k) b h (ap (λ (d : Contents). body_at d t k) new.records ∙ get-empty (slice_cmp nat_cmp) k);
  }

  pub stands_clean : (s : State) → Stands f c s → IsClean f c
  stands_clean s (inl new) = inl (new_nothing s new)
  stands_clean s (inr stands) = inr (stands_whole s stands)
