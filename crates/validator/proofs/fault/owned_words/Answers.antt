-- By the word's opcode.
use Rattle.std.proofs.Common.{◌≢◌, arith, rules, sym, ◌∙◌}
use Rattle.opcodes.specs.Words.{number_of, CLOSURE, SETLIST}
use Rattle.opcodes.specs.declared.Opcode51.TheVariants.{Closure, SetList}
use Rattle.opcodes.proofs.SplitLaws.{known_has, unknown_has}
use Rattle.validator.proofs.FaultLaws.{claims_bindings, claims_extra, claims_no_extra, claims_none}
use Rattle.validator.proofs.fault.owned_words.Goals as goal

pub returns-in-Known-Closure : goal.returns-in-Known-Closure
unfolding number_of
returns-in-Known-Closure c pc words =
    c.child_upvalues.ensures words ∙ claims_bindings _ pc _ c.requires (known_has _ _ c.requires Closure (search rules))

pub returns-in-Known-SetList : goal.returns-in-Known-SetList
unfolding number_of
returns-in-Known-SetList c pc words =
    let e = known_has _ _ c.requires SetList (search rules) in
    claims_extra _ pc _ c.requires (λ f. omega (arith, e, f)) e c.if-w-eq0.true

pub returns-in_default : goal.returns-in_default
unfolding number_of
returns-in_default c pc words =
    let e = known_has _ _ c.requires SetList (search rules) in
    claims_no_extra _ pc _ c.requires (λ f. omega (arith, e, f)) c.if-w-eq0.false

pub returns-in_default-2 : goal.returns-in_default-2
unfolding number_of
returns-in_default-2 c pc words =
    let not-closure : number_of c.in_default.field-0 ≢ CLOSURE = search rules in
    let not-setlist : number_of c.in_default.field-0 ≢ SETLIST = search rules in
    let number = known_has _ _ c.requires _ c.in_default.is in
    claims_none _ pc _ c.requires (λ e. not-closure (sym number ∙ e)) (λ e. not-setlist (sym number ∙ e))

pub returns-in_default-3 : goal.returns-in_default-3
returns-in_default-3 c pc words =
    let above = unknown_has _ _ c.requires _ c.in_default.is in
    claims_none _ pc _ c.requires (λ e. omega arith) (λ e. omega arith)
