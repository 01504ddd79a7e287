-- `stepping::at_work` meets its contract. Assumes nothing.

use mathlib.Core.Path.{sym, ◌∙◌}
use Rattle.stepping.proofs.Working.{none-inner, none-found, run_works}
use Rattle.stepping.proofs.at_work.Goals as goal

pub returns-then-is_empty-clause-list_len_bound : goal.returns-then-is_empty-clause-list_len_bound
returns-then-is_empty-clause-list_len_bound c h = none-inner c.args.list.now c.args.inner c.args.at (sym c.is_empty.ensures ∙ c.if-is_empty.true)

pub returns-in_err-k-clause-list_len_bound : goal.returns-in_err-k-clause-list_len_bound
returns-in_err-k-clause-list_len_bound c h = none-found c.args.list.now c.args.inner c.args.at c.in_ok-get.ensures.lookup.0.2 c.in_err-k.ensures

pub returns-clause-at_work : goal.returns-clause-at_work
returns-clause-at_work c = run_works c.args.list.now c.args.inner c.args.at c.in_ok-get.ensures.lookup.0.2 c.in_ok-k.ensures c.span.result c.span.ensures.0 c.span.ensures.1
