use Rattle.std.proofs.Common.{rules, Some, ◌≡◌}
use Rattle.std.specs.Option.{MatchOption}
use Rattle.words.specs.Quick.Numbered.{numbered}
use Rattle.words.specs.Entries.{first_free}
use Rattle.words.proofs.Found.{next_numbered}
use Rattle.words.proofs.search.next_free.Goals as goal

pub returns : goal.returns
returns c =
    let a = c.args in
    let e : MatchOption c.first_free.result (c.or_else.result ≡ numbered a.kind (first_free a.t.now a.kind 0)) (λ x. c.or_else.result ≡ Some x) = search rules in
    next_numbered a.t.now a.kind _ c.tried_first.ensures c.or_else.result (rw c.first_free.ensures at e)
