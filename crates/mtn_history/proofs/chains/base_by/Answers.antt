use Rattle.std.proofs.Common.{◌∙◌, [], sym, ap, subst}
use Rattle.std.specs.Prelude.{reverse}
use Rattle.std.proofs.lemmas.List.{reverse-reverse}
use Rattle.mtn_history.specs.Rosters.{AreDeltasOn, EndsAt, IsChainDown}
use Rattle.mtn_history.proofs.chains.base_by.Goals as goal

pub returns-in-ToWhole-clause-right : goal.returns-in-ToWhole-clause-right
returns-in-ToWhole-clause-right c = λ k at down.
    let ends = subst (λ e. EndsAt k at at [] c.args.chain.records.items e) c.in-ToWhole.is down in
    c.entries_at.ensures.right k at (subst (IsChainDown k at) (sym (ap reverse c.reverse.ensures.items ∙ reverse-reverse c.args.chain.records.items)) ends)

pub returns-in-ToWhole-clause-bad : goal.returns-in-ToWhole-clause-bad
returns-in-ToWhole-clause-bad c = λ is k at down.
    let ends = subst (λ e. EndsAt k at at [] c.args.chain.records.items e) c.in-ToWhole.is down in
    c.entries_at.ensures.bad is k at (subst (IsChainDown k at) (sym (ap reverse c.reverse.ensures.items ∙ reverse-reverse c.args.chain.records.items)) ends)

pub returns-in-ToBase-clause-right : goal.returns-in-ToBase-clause-right
returns-in-ToBase-clause-right c = λ k at down.
    let ends = subst (λ e. EndsAt k at at [] c.args.chain.records.items e) c.in-ToBase.is down in
    c.entries_on.ensures.right k at (subst (λ l. AreDeltasOn k at l c.in-ToBase.base) (sym (ap reverse c.reverse.ensures.items ∙ reverse-reverse c.args.chain.records.items)) ends)

pub returns-in-ToBase-clause-bad : goal.returns-in-ToBase-clause-bad
returns-in-ToBase-clause-bad c = λ is k at down.
    let ends = subst (λ e. EndsAt k at at [] c.args.chain.records.items e) c.in-ToBase.is down in
    c.entries_on.ensures.bad is k at (subst (λ l. AreDeltasOn k at l c.in-ToBase.base) (sym (ap reverse c.reverse.ensures.items ∙ reverse-reverse c.args.chain.records.items)) ends)

pub returns-in-ToMeeting-clause-right : goal.returns-in-ToMeeting-clause-right
returns-in-ToMeeting-clause-right c = λ k at down.
    let ends = subst (λ e. EndsAt k at at [] c.args.chain.records.items e) c.in-ToMeeting.is down in
    absurd (let none = ends.1.1 in cc)

pub returns-in-ToMeeting-clause-bad : goal.returns-in-ToMeeting-clause-bad
returns-in-ToMeeting-clause-bad c = λ is k at down.
    let ends = subst (λ e. EndsAt k at at [] c.args.chain.records.items e) c.in-ToMeeting.is down in
    absurd (let none = ends.1.1 in cc)
