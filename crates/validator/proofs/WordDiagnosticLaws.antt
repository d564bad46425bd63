-- All diagnostics of a word, whose opcode is known or not. Assumes nothing.
use Rattle.std.proofs.Common.{◌≡◌, ℕ, ◌+◌, Bool, true, false, T, ltb, [], ◌∷◌, sym, ap, ◌∙◌, subst}
use mathlib.Core.List.{flat_map, flatten}
use Rattle.base.specs.Lists.{only, up_from}
use Rattle.opcodes.specs.Words.{opcode, is, decoded, CLOSURE, VARARG}
use Rattle.opcodes.specs.declared.Opcode51.{Opcode51}
use Rattle.opcodes.specs.declared.OpcodeField.TheVariants.{Known, Unknown}
use Rattle.opcodes.specs.declared.RawInstruction51.{RawInstruction51}
use Rattle.opcodes.proofs.OpcodeLaws.{unknown_above}
use Rattle.opcodes.proofs.SplitLaws.{split_again}
use Rattle.roles_spec.specs.Roles.{word_at, binding_words}
use Rattle.roles_spec.specs.Table.{Proto}
use Rattle.validator_spec.specs.Diagnostics.{opcode_diagnostics, jump_diagnostics, skip_diagnostics, operand_diagnostics, binding_diagnostics, known_diagnostics, word_diagnostics}
use Rattle.validator_spec.specs.Operands.{is_unknown}
use Rattle.validator.specs.Terms.{Decodes}
use Rattle.validator.specs.Steps.{State, emitted, emit_all}
use Rattle.validator.proofs.BindingLaws.{only_closures}
use Rattle.validator.proofs.EmitLaws.{emits_word, emits_none, emits_cons, emits_end, emits_join}
use Rattle.validator.proofs.KnownOperandLaws.{not_unknown}

-- the word was split
pub decodes : (op : Opcode51) (w : RawInstruction51) (v : ℕ) → w ≡ decoded v → w.opcode ≡ Known op → Decodes op w
decodes op w v split known = record { split = split_again v w split; known = known }

module _ (row pc : ℕ) (p : Proto) (w : RawInstruction51) (v : ℕ) (split : w ≡ decoded v) (read : v ≡ word_at p pc) (s : State) where
  -- code 4, and nothing more
  pub word_unknown : (m : ℕ) (t : State) → w.opcode ≡ Unknown m → t ≡ emitted row pc 4 w.opcode_num s → t ≡ emit_all row (word_diagnostics p pc (word_at p pc)) s
  unfolding decoded word_diagnostics opcode_diagnostics is_unknown only
  word_unknown m t e f =
      let unknown : ltb VARARG (opcode v) ≡ true = unknown_above (opcode v) m (sym (ap (λ (x : RawInstruction51). x.opcode) split) ∙ e) in
      rw (← read, unknown) (f ∙ ap (λ (x : RawInstruction51). emitted row pc 4 x.opcode_num s) split ∙ emits_word row pc 4 (opcode v) s)

  module _ (op : Opcode51) (known : w.opcode ≡ Known op) where
    d : Decodes op w
    d = decodes op w v split known

    same : w.raw ≡ word_at p pc
    unfolding decoded
    same = ap (λ (x : RawInstruction51). x.raw) split ∙ read

    -- codes 5 to 17
    pub word_known : (t u z : State) → t ≡ emit_all row (flatten (jump_diagnostics p pc w.raw ∷ skip_diagnostics p pc w.raw ∷ [])) s → u ≡ emit_all row (operand_diagnostics p pc w.raw) t
        → z ≡ emit_all row (flat_map (binding_diagnostics p) (up_from (pc + 1) (binding_words p pc))) u → z ≡ emit_all row (word_diagnostics p pc (word_at p pc)) s
    unfolding word_diagnostics opcode_diagnostics known_diagnostics only
    word_known t u z e f g =
        rw (← same, not_unknown op w d)
        (emits_join row (jump_diagnostics p pc w.raw ∷ skip_diagnostics p pc w.raw ∷ []) _ s t z e (emits_cons row (operand_diagnostics p pc w.raw) _ t u z f (emits_end row _ u z g)))

    -- only a CLOSURE binds
    pub binds : (b : Bool) → b ≡ is w.raw (CLOSURE ∷ []) → b ≡ true → T (is (word_at p pc) (CLOSURE ∷ []))
    binds b e q = subst T (sym q ∙ e ∙ ap (λ (n : ℕ). is n (CLOSURE ∷ [])) same) tt

    pub no_bindings : (b : Bool) (u : State) → b ≡ is w.raw (CLOSURE ∷ []) → b ≡ false → u ≡ emit_all row (flat_map (binding_diagnostics p) (up_from (pc + 1) (binding_words p pc))) u
    unfolding flat_map
    no_bindings b u e q =
        let other : is (word_at p pc) (CLOSURE ∷ []) ≡ false = sym (sym q ∙ e ∙ ap (λ (n : ℕ). is n (CLOSURE ∷ [])) same) in
        emits_none row u ∙ ap (λ (n : ℕ). emit_all row (flat_map (binding_diagnostics p) (up_from (pc + 1) n)) u) (sym (only_closures p pc other))
