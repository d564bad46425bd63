-- The companions of a CLOSURE: what each adds, and that they are those up to the next executable word. Assumes nothing.
use Rattle.std.proofs.Common.{◌≡◌, ℕ, ◌+◌, ◌-◌, ◌/◌, ◌<◌, ◌≤◌, Bool, true, false, not, ◌&&◌, ◌||◌, T, eqb, ltb, leb, List, [], ◌∷◌, ◌++◌, length, get_or, sym, refl, ap, ◌∙◌, true≢false, append-nil, add-zero, arith, ltb-false, ltb-true, ne_eqb, le-ltb, lt-ltb, leb-false, leb-true}
use mathlib.Core.Bool.{false≢true}
use mathlib.Core.List.{flat_map, flatten}
use lib.ListN.{get_or-eq_default}
use Rattle.base.specs.Bytes.{u32s}
use Rattle.base.specs.Lists.{elem, only, up_from}
use Rattle.opcodes.specs.Words.{B, opcode, operand, is, decoded, GETUPVAL, MOVE, CLOSURE, SETLIST, VARARG, opcode_count}
use Rattle.opcodes.specs.declared.RawInstruction51.{RawInstruction51}
use Rattle.base.proofs.ListLaws.{flat_map_append, up_from_append}
use Rattle.base.proofs.BoolLaws.{t_true, or_false, by_cond}
use Rattle.opcodes.proofs.OpcodeTestLaws.{is_not}
use Rattle.roles_spec.specs.Roles.{Instruction, is_executable, Executable, executable_at, role_at, word_at, roles, owned, existing, companions, binding_count, binding_words, has_extra, role_in}
use Rattle.roles_spec.specs.Table.{Proto}
use Rattle.roles_spec.proofs.RoleBufferLaws.{length_roles}
use Rattle.roles_spec.proofs.RoleLaws.{exists, next_executable, owned_count, companion_unexecutable}
use Rattle.validator_spec.specs.Diagnostics.{Diagnostic, diagnostic, not_below, opcode_value, binding_diagnostics}
use Rattle.validator_spec.specs.Operands.{is_unknown, is_binding, captured_register, captured_upvalue}
use Rattle.validator.specs.Terms.{Describes}
use Rattle.validator.specs.Steps.{State, emitted, emit_all}
use Rattle.validator.specs.declared.rows.RowLimits.{RowLimits}
use Rattle.validator.proofs.EmitLaws.{emits_bits, emits_word, emits_then, emits_none}
use Rattle.validator.proofs.FaultLaws.{claims_count}
use Rattle.validator.proofs.DescribedLaws.{looked_up, word_read, code_words}

-- ---- one companion

-- all that the binding word w at pc adds, with the limits that the code has
abbrev pub binding_adds : RowLimits → ℕ → ℕ → List Diagnostic
binding_adds q pc w =
    flatten (
    only (not (is_binding w)) (diagnostic pc 17 (opcode_value w))
    ∷ not_below pc 12 q.stack (captured_register w)
    ∷ not_below pc 8 q.upvalues (captured_upvalue w)
    ∷ []
    )

-- by the case of its opcode
module _ (row : ℕ) (q : RowLimits) (pc w : ℕ) (r : RawInstruction51) (split : r ≡ decoded w) (s t : State) where
  split_opcode : opcode w ≡ r.opcode_num
  unfolding decoded
  split_opcode = sym (ap (λ (x : RawInstruction51). x.opcode_num) split)

  -- what it captures
  captured : operand B w ≡ r.b
  unfolding decoded
  captured = sym (ap (λ (x : RawInstruction51). x.b) split)

  pub binds_register : r.opcode_num ≡ MOVE → t ≡ emit_all row (not_below pc 12 q.stack (r.b ∷ [])) s → t ≡ emit_all row (binding_adds q pc w) s
  unfolding is_binding is captured_register captured_upvalue only flatten not_below
  binds_register e f = rw (split_opcode ∙ e, captured) (f ∙ ap (λ (ds : List Diagnostic). emit_all row ds s) (sym (append-nil _)))

  pub binds_upvalue : r.opcode_num ≡ GETUPVAL → t ≡ emit_all row (not_below pc 8 q.upvalues (r.b ∷ [])) s → t ≡ emit_all row (binding_adds q pc w) s
  unfolding is_binding is captured_register captured_upvalue only flatten not_below
  binds_upvalue e f = rw (split_opcode ∙ e, captured) (f ∙ ap (λ (ds : List Diagnostic). emit_all row ds s) (sym (append-nil _)))

  -- where it captures nothing
  adds_17 : elem r.opcode_num (MOVE ∷ GETUPVAL ∷ []) ≡ false → binding_adds q pc w ≡ diagnostic pc 17 (opcode_value w) ∷ []
  unfolding is_binding is captured_register captured_upvalue only flatten not_below
  adds_17 other = let o = or_false (eqb r.opcode_num MOVE) (eqb r.opcode_num GETUPVAL || false) other in rw (split_opcode, o.0, o.1)

  pub binds_nothing : elem r.opcode_num (MOVE ∷ GETUPVAL ∷ []) ≡ false → r.opcode_num < opcode_count → t ≡ emitted row pc 17 r.opcode_num s → t ≡ emit_all row (binding_adds q pc w) s
  unfolding opcode_value is_unknown
  binds_nothing other known f = rw (adds_17 other, split_opcode, le-ltb VARARG r.opcode_num (omega arith)) (f ∙ emits_word row pc 17 r.opcode_num s)

  pub binds_unknown : VARARG < r.opcode_num → t ≡ emitted row pc 17 4294967295 s → t ≡ emit_all row (binding_adds q pc w) s
  unfolding opcode_value is_unknown
  binds_unknown above f =
      let other : elem r.opcode_num (MOVE ∷ GETUPVAL ∷ []) ≡ false = rw (ne_eqb r.opcode_num MOVE (λ e. omega arith), ne_eqb r.opcode_num GETUPVAL (λ e. omega arith)) in
      rw (adds_17 other, split_opcode, lt-ltb VARARG r.opcode_num above) (f ∙ emits_bits row pc 17 0 s)

binding_by : (p : Proto) (q : RowLimits) (code records : List ℕ) → Describes p q code records → (pc w : ℕ) → pc < length code / 4 → w ≡ get_or (u32s code) pc 0 → binding_adds q pc w ≡ binding_diagnostics p pc
unfolding binding_diagnostics
binding_by p q code records d pc w h e = rw (e ∙ word_read p q code records d pc, d.limits.stack, d.limits.upvalues)

-- ---- all companions

-- the binding words of a CLOSURE are all of its companions
closure_owns : (p : Proto) (pc : ℕ) → Executable p pc → T (is (word_at p pc) (CLOSURE ∷ [])) → binding_words p pc ≡ companions p pc
unfolding binding_words companions has_extra only
closure_owns p pc x t =
    let n : owned p pc ≡ binding_count p (word_at p pc) =
    owned_count p pc x ∙ claims_count p pc (word_at p pc) ∙ rw (is_not (word_at p pc) (CLOSURE ∷ []) (SETLIST ∷ []) tt t) (add-zero _) in
    rw (t_true (executable_at p pc) x, n)

-- another word has none
pub only_closures : (p : Proto) (pc : ℕ) → is (word_at p pc) (CLOSURE ∷ []) ≡ false → binding_words p pc ≡ 0
unfolding binding_words binding_count existing
only_closures p pc e = rw e (by_cond (λ (n : ℕ). n ≡ 0) (executable_at p pc) _ _ (λ _. omega arith) (λ _. refl))

-- a pc past the last word is executable
past_executable : (p : Proto) (pc : ℕ) → length p.code ≤ pc → is_executable (role_at p pc) ≡ true
unfolding role_at
past_executable p pc h = ap is_executable (get_or-eq_default (roles p) Instruction (omega (arith, length_roles p)))

companion_exists : (p : Proto) (pc : ℕ) → is_executable (role_at p pc) ≡ false → pc < length p.code
companion_exists p pc e = go (ltb pc (length p.code)) refl
  where
    go : (b : Bool) → ltb pc (length p.code) ≡ b → pc < length p.code
    go true q = ltb-true pc (length p.code) q
    go false q = absurd (true≢false (sym (past_executable p pc (ltb-false pc (length p.code) q)) ∙ e))

module _ (p : Proto) (pc : ℕ) (x : Executable p pc) (t : T (is (word_at p pc) (CLOSURE ∷ []))) where
  -- each of them is a companion
  binding_companion : (j : ℕ) → j < binding_words p pc → is_executable (role_at p (pc + 1 + j)) ≡ false
  unfolding executable_at companions existing
  binding_companion j h =
      let k : j < companions p pc = omega (arith, closure_owns p pc x t) in
      let there : pc + 1 + j < length p.code = omega (arith, k) in
      sym (ap (λ (b : Bool). b && is_executable (role_at p (pc + 1 + j))) (lt-ltb (pc + 1 + j) (length p.code) there)) ∙ companion_unexecutable p pc j x k

  -- and the word after them is not
  after_bindings : is_executable (role_at p (pc + 1 + binding_words p pc)) ≡ true
  unfolding companions existing
  after_bindings = go (leb (owned p pc) (length p.code - (pc + 1))) refl
    where
      go : (b : Bool) → leb (owned p pc) (length p.code - (pc + 1)) ≡ b → is_executable (role_at p (pc + 1 + binding_words p pc)) ≡ true
      go true e =
          let n : binding_words p pc ≡ owned p pc = omega (arith, closure_owns p pc x t, leb-true (owned p pc) (length p.code - (pc + 1)) e) in
          rw n (t_true _ (next_executable p pc x))
      go false e = past_executable p (pc + 1 + binding_words p pc) (omega (arith, closure_owns p pc x t, leb-false (owned p pc) (length p.code - (pc + 1)) e, exists p pc x))

  -- so a companion up to there is one of them
  pub binding_before : (at : ℕ) → at ≤ pc + 1 + binding_words p pc → is_executable (role_at p at) ≡ false → at < pc + 1 + binding_words p pc
  binding_before at h e = go (ltb at (pc + 1 + binding_words p pc)) refl
    where
      go : (b : Bool) → ltb at (pc + 1 + binding_words p pc) ≡ b → at < pc + 1 + binding_words p pc
      go true q = ltb-true at (pc + 1 + binding_words p pc) q
      go false q =
          let last : pc + 1 + binding_words p pc ≡ at = omega (arith, ltb-false at (pc + 1 + binding_words p pc) q) in
          absurd (true≢false (sym after_bindings ∙ ap (λ (n : ℕ). is_executable (role_at p n)) last ∙ e))

  -- and an executable word after pc up to there is the one after them
  pub bindings_end : (at : ℕ) → pc < at → at ≤ pc + 1 + binding_words p pc → is_executable (role_at p at) ≡ true → at - (pc + 1) ≡ binding_words p pc
  bindings_end at l h e = go (ltb (at - (pc + 1)) (binding_words p pc)) refl
    where
      go : (b : Bool) → ltb (at - (pc + 1)) (binding_words p pc) ≡ b → at - (pc + 1) ≡ binding_words p pc
      go true q =
          let there : pc + 1 + (at - (pc + 1)) ≡ at = omega arith in
          absurd (true≢false (sym e ∙ ap (λ (n : ℕ). is_executable (role_at p n)) (sym there) ∙ binding_companion (at - (pc + 1)) (ltb-true _ _ q)))
      go false q = omega (arith, ltb-false (at - (pc + 1)) (binding_words p pc) q)

-- one number more
flat_map_next : (f : ℕ → List Diagnostic) (i n : ℕ) → flat_map f (up_from i (n + 1)) ≡ flat_map f (up_from i n) ++ f (i + n)
unfolding flat_map
flat_map_next f i n =
    ap (flat_map f) (up_from_append i n 1) ∙ flat_map_append f (up_from i n) (up_from (i + n) 1) ∙ ap (λ (l : List Diagnostic). flat_map f (up_from i n) ++ l) (append-nil (f (i + n)))

-- ---- the pass over them

-- at `at`, the companions before it were looked at
pub record BindingPass (q : RowLimits) (code records : List ℕ) (pc : ℕ) (s₀ s : State) (at : ℕ) : Type 0 where
  pub later : pc < at
  pub within : (p : Proto) → Describes p q code records → Executable p pc → T (is (word_at p pc) (CLOSURE ∷ [])) → at ≤ pc + 1 + binding_words p pc
  pub done : (p : Proto) → Describes p q code records → Executable p pc → T (is (word_at p pc) (CLOSURE ∷ []))
      → s ≡ emit_all q.row (flat_map (binding_diagnostics p) (up_from (pc + 1) (at - (pc + 1)))) s₀

-- a companion has a record
pub has_record : (records : List ℕ) (at : ℕ) (b : Bool) → b ≡ not (is_executable (role_in records at)) → b ≡ true → at < length records / 8
unfolding role_in
has_record records at b e q = go (ltb at (length records / 8)) refl
  where
    go : (t : Bool) → ltb at (length records / 8) ≡ t → at < length records / 8
    go true h = ltb-true at (length records / 8) h
    go false h = absurd (false≢true (sym (e ∙ rw h) ∙ q))

module _ (q : RowLimits) (code records : List ℕ) (pc : ℕ) (s₀ : State) where
  pub pass_begins : BindingPass q code records pc s₀ s₀ (pc + 1)
  unfolding flat_map
  pass_begins =
      record {
        later = omega arith;
        within = λ p d x t. omega arith;
        done = λ p d x t. (let z : pc + 1 - (pc + 1) ≡ 0 = omega arith in rw z (emits_none q.row s₀));
      }

  module _ (s : State) (at : ℕ) (pass : BindingPass q code records pc s₀ s at) (b : Bool) (looked : b ≡ not (is_executable (role_in records at))) where
    -- the role that was looked up
    role_there : (p : Proto) → Describes p q code records → (c : Bool) → b ≡ not c → is_executable (role_at p at) ≡ c
    role_there p d c e = looked_up p q code records d at b c looked e

    pub pass_next : b ≡ true → (t : State) (w : ℕ) → w ≡ get_or (u32s code) at 0 → t ≡ emit_all q.row (binding_adds q at w) s → BindingPass q code records pc s₀ t (at + 1)
    pass_next e t w read added =
        record {
          later = omega (arith, pass.later);
          within = λ p d x c. omega (arith, binding_before p pc x c at (pass.within p d x c) (role_there p d false e));
          done = λ p d x c.
              let row = q.row in
              let f : ℕ → List Diagnostic = binding_diagnostics p in
              let there : at < length code / 4 = omega (arith, companion_exists p at (role_there p d false e), code_words p q code records d) in
              let count : at + 1 - (pc + 1) ≡ at - (pc + 1) + 1 = omega (arith, pass.later) in
              let here : pc + 1 + (at - (pc + 1)) ≡ at = omega (arith, pass.later) in
              emits_then row (flat_map f (up_from (pc + 1) (at - (pc + 1)))) (f at) s₀ s t (pass.done p d x c) (added ∙ ap (λ (ds : List Diagnostic). emit_all row ds s) (binding_by p q code records d at w there read))
              ∙ ap (λ (ds : List Diagnostic). emit_all row ds s₀)
              (sym (ap (λ (n : ℕ). flat_map f (up_from (pc + 1) n)) count ∙ flat_map_next f (pc + 1) (at - (pc + 1)) ∙ ap (λ (n : ℕ). flat_map f (up_from (pc + 1) (at - (pc + 1))) ++ f n) here));
        }

    pub pass_ends : b ≡ false → (p : Proto) → Describes p q code records → Executable p pc → T (is (word_at p pc) (CLOSURE ∷ []))
        → s ≡ emit_all q.row (flat_map (binding_diagnostics p) (up_from (pc + 1) (binding_words p pc))) s₀
    pass_ends e p d x c =
        pass.done p d x c
        ∙ ap (λ (n : ℕ). emit_all q.row (flat_map (binding_diagnostics p) (up_from (pc + 1) n)) s₀) (bindings_end p pc x c at pass.later (pass.within p d x c) (role_there p d true e))
