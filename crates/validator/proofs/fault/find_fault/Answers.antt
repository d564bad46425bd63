-- Only the owner of the last word can be truncated.
use Rattle.std.proofs.Common.{◌≢◌, arith, rules, sym, ◌∙◌}
use mathlib.Core.List.{flat_map}
use Rattle.opcodes.specs.Words.{number_of, CLOSURE}
use Rattle.opcodes.specs.declared.Opcode51.TheVariants.{Closure}
use Rattle.opcodes.proofs.SplitLaws.{known_has, split_again, unknown_has}
use Rattle.validator.specs.Terms.{fault_diagnostics}
use Rattle.validator.proofs.FaultLaws.{no_fault, closure_fault, setlist_fault}
use Rattle.validator.proofs.fault.find_fault.Goals as goal

pub returns-then-n-eq0 : goal.returns-then-n-eq0
unfolding fault_diagnostics flat_map
returns-then-n-eq0 c = rw c.if-n-eq0.true

pub owned_words-owned-requires : goal.owned_words-owned-requires
owned_words-owned-requires c = split_again _ _ c.decode-w.ensures

pub returns-then-owner_pc-owned : goal.returns-then-owner_pc-owned
returns-then-owner_pc-owned c =
    no_fault _ _ c.args.row.now.limits _ _ c.args.row.now.describes c.if-n-eq0.false _ _ _ _ c.last_owner-owner_pc.ensures c.u32_at.ensures c.decode-w.ensures c.owned_words-owned.ensures c.if-owner_pc-owned.true

pub returns-in-Known-Closure : goal.returns-in-Known-Closure
unfolding number_of
returns-in-Known-Closure c =
    closure_fault _ _ c.args.row.now.limits _ _ c.args.row.now.describes c.if-n-eq0.false _ _ _ _ c.last_owner-owner_pc.ensures c.u32_at.ensures c.decode-w.ensures c.owned_words-owned.ensures c.if-owner_pc-owned.false
    (known_has _ _ c.decode-w.ensures Closure (search rules))

pub returns-in_default : goal.returns-in_default
unfolding number_of
returns-in_default c =
    let other : number_of c.in_default.field-0 ≢ CLOSURE = search rules in
    setlist_fault _ _ c.args.row.now.limits _ _ c.args.row.now.describes c.if-n-eq0.false _ _ _ _ c.last_owner-owner_pc.ensures c.u32_at.ensures c.decode-w.ensures c.owned_words-owned.ensures c.if-owner_pc-owned.false
    (λ e. other (sym (known_has _ _ c.decode-w.ensures _ c.in_default.is) ∙ e))

pub returns-in_default-2 : goal.returns-in_default-2
returns-in_default-2 c =
    let above = unknown_has _ _ c.decode-w.ensures _ c.in_default.is in
    setlist_fault _ _ c.args.row.now.limits _ _ c.args.row.now.describes c.if-n-eq0.false _ _ _ _ c.last_owner-owner_pc.ensures c.u32_at.ensures c.decode-w.ensures c.owned_words-owned.ensures c.if-owner_pc-owned.false
    (λ e. omega arith)
