-- What each owner's companions bind: those that are bindings, in a buffer that has room for records.
use Rattle.std.proofs.Common.{refl}
use Rattle.roles.proofs.BindingStepLaws.{claim_other, claim_bound, claim_unfit, bindable_child}
use Rattle.roles.proofs.bindings.bind_claim.Goals as goal

pub bind_child-requires : goal.bind_child-requires
bind_child-requires c = bindable_child _ _ _ _ _ _ c.in-Bindings.is c.if-bindings-ge-BINDING_BYTES.true c.requires.bindable

pub returns-in_default : goal.returns-in_default
returns-in_default c = claim_other _ _ c.args.words.now.pc c.args.base c.args.words.now.existing _ c.in_default.not-Bindings

pub returns-then-bindings-ge-BINDING_BYTES : goal.returns-then-bindings-ge-BINDING_BYTES
returns-then-bindings-ge-BINDING_BYTES c = claim_bound _ _ _ _ _ _ _ _ _ c.in-Bindings.is c.bind_child.ensures

pub returns-else-bindings-ge-BINDING_BYTES : goal.returns-else-bindings-ge-BINDING_BYTES
returns-else-bindings-ge-BINDING_BYTES c =
    claim_unfit _ _ _ c.args.words.now.pc c.args.base c.args.words.now.existing _ _ _ c.in-Bindings.is c.if-bindings-ge-BINDING_BYTES.false refl
