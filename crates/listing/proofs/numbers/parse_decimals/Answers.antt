-- Number by number: each is one, and ends as it must.
use Rattle.std.proofs.Common.{arith, rules, sym, ◌∙◌}
use Rattle.std.proofs.lemmas.List.{length-replicate}
use Rattle.std.proofs.lemmas.Grind.{common_steps}
use Rattle.listing.specs.Terms.{option_of}
use Rattle.listing.proofs.DecimalLineLaws.{decimals_first, decimals_malformed, decimals_ended, decimals_unended, decimals_number, loop_none, loop_number, decimals_all, decimals_more}
use Rattle.listing.proofs.numbers.parse_decimals.Goals as goal

pub loop-i-init : goal.loop-i-init
loop-i-init g c = (length-replicate _ _, decimals_first _ _)

pub returns-in_err-number : goal.returns-in_err-number
unfolding option_of
returns-in_err-number g c = rw c.from_residual.ensures (loop_none _ _ _ _ _ c.loop-i-test.true c.loop-i.invariant.1 (decimals_malformed _ _ _ _ _ c.digits_count.ensures c.split_at.ensures.front c.split_at.ensures.back c.in_err-number.ensures))

pub returns-in_err-end : goal.returns-in_err-end
unfolding option_of
returns-in_err-end g c = rw c.from_residual-in_err-end.ensures (loop_none _ _ _ _ _ c.loop-i-test.true c.loop-i.invariant.1 (decimals_ended _ _ _ _ _ c.digits_count.ensures c.split_at.ensures.front c.split_at.ensures.back c.in_err-end.ensures.cases))

pub returns-then-end-separator_after : goal.returns-then-end-separator_after
unfolding option_of
returns-then-end-separator_after g c = loop_none _ _ _ _ _ c.loop-i-test.true c.loop-i.invariant.1 (decimals_unended _ _ _ _ _ c.digits_count.ensures c.split_at.ensures.front c.split_at.ensures.back _ _ c.in_ok-end.ensures.cases.0 (λ e. c.if-end-separator_after.true (e ∙ sym c.separator_after.ensures)))

pub loop-i-preserved : goal.loop-i-preserved
unfolding option_of
loop-i-preserved g c = (search rules, loop_number _ _ _ _ _ c.loop-i-test.true c.loop-i.invariant.1 _ _ c.loop-i.invariant.0 (decimals_number _ _ _ _ _ c.digits_count.ensures c.split_at.ensures.front c.split_at.ensures.back _ _ c.in_ok-end.ensures.cases.0 _ c.in_ok-number.ensures (c.if-end-separator_after.false ∙ c.separator_after.ensures)))

pub returns-then-is_empty : goal.returns-then-is_empty
unfolding option_of
returns-then-is_empty g c = decimals_all _ _ _ _ _ c.loop-i.invariant.0 (omega arith) c.loop-i.invariant.1 (grind (arith, common_steps))

pub returns-else-is_empty : goal.returns-else-is_empty
unfolding option_of
returns-else-is_empty g c = decimals_more _ _ _ _ _ c.loop-i.invariant.0 (omega arith) c.loop-i.invariant.1 (grind (arith, common_steps))
