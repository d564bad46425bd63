-- Which word owns another: each has one owner, and it is the one that the word's role names. Assumes nothing.
use Rattle.std.proofs.Common.{◌≡◌, ℕ, zero, suc, ◌+◌, ◌-◌, ◌<◌, ◌≤◌, Bool, true, false, T, eqb, leb, map, length, sym, refl, ap, ◌∙◌, subst, arith, eqb-true, leb-false, leb-true}
use borrow.Author.Tests.{eqb-false}
use Rattle.base.specs.Lists.{All, all_nil, all_cons, up_from, only}
use Rattle.base.proofs.AllLaws.{all_append, all_at}
use Rattle.roles_spec.specs.Table.{Proto}
use Rattle.roles_spec.specs.Roles.{Role, Instruction, ClosureBinding, SetlistExtra, is_executable, Executable, binding_count, has_extra, claims, role_at, word_at, owned, existing, companions, last_owner}
use Rattle.roles_spec.proofs.RoleLaws.{executable_role, role, executable, first_executable, next_executable, owned_count, owned_role}

-- the word at pc is the executable one at o, or one of those that it owns
pub record Owns (p : Proto) (o pc : ℕ) : Type 0 where
  pub executes : Executable p o
  pub after : o ≤ pc
  pub within : pc ≤ o + owned p o

-- the word at pc has such an owner
record Owner (p : Proto) (pc : ℕ) : Type 0 where
  owner_pc : ℕ
  owns : Owns p owner_pc pc

itself : (p : Proto) (pc : ℕ) → Executable p pc → Owner p pc
itself p pc x = record { owner_pc = pc; owns = record { executes = x; after = omega arith; within = omega arith } }

next_owner : (p : Proto) (pc : ℕ) → suc pc < length p.code → Owner p pc → Owner p (suc pc)
next_owner p pc h v = go (leb (suc pc) (v.owner_pc + owned p v.owner_pc)) refl
  where
    go : (b : Bool) → leb (suc pc) (v.owner_pc + owned p v.owner_pc) ≡ b → Owner p (suc pc)
    go true e = record { owner_pc = v.owner_pc; owns = record { executes = v.owns.executes; after = omega (arith, v.owns.after); within = leb-true (suc pc) (v.owner_pc + owned p v.owner_pc) e } }
    go false e =
        let here : v.owner_pc + 1 + owned p v.owner_pc ≡ suc pc = omega (arith, v.owns.within, leb-false (suc pc) (v.owner_pc + owned p v.owner_pc) e) in
        itself p (suc pc) (executable p (suc pc) h (subst (λ (n : ℕ). T (is_executable (role_at p n))) here (next_executable p v.owner_pc v.owns.executes)))

has_owner : (p : Proto) (pc : ℕ) → pc < length p.code → Owner p pc
has_owner p zero h = itself p 0 (executable p 0 h (first_executable p))
has_owner p (suc pc) h = next_owner p pc h (has_owner p pc (omega arith))

-- the roles that a word at o claims name o as the owner
abbrev Of : ℕ → ℕ → Role → Type 0
Of o pc r = last_owner pc r ≡ o

bindings_owned : (o pc i n : ℕ) → All (Of o pc) (map (ClosureBinding o) (up_from i n))
unfolding last_owner
bindings_owned o pc i zero = all_nil
bindings_owned o pc i (suc n) = all_cons refl (bindings_owned o pc (suc i) n)

extra_of : (b : Bool) (o pc : ℕ) → All (Of o pc) (only b (SetlistExtra o))
unfolding only last_owner
extra_of true o pc = all_cons refl all_nil
extra_of false o pc = all_nil

claims_of : (p : Proto) (o pc w : ℕ) → All (Of o pc) (claims p o w)
unfolding claims
claims_of p o pc w = all_append (bindings_owned o pc 0 (binding_count p w)) (extra_of (has_extra w) o pc)

-- so the owner of a word is the one that its role names
pub owner_is : (p : Proto) (o pc : ℕ) → pc < length p.code → Owns p o pc → last_owner pc (role_at p pc) ≡ o
unfolding last_owner companions existing
owner_is p o pc h v = go (eqb o pc) refl
  where
    go : (b : Bool) → eqb o pc ≡ b → last_owner pc (role_at p pc) ≡ o
    go true e =
        let same : o ≡ pc = eqb-true o pc e in
        ap (last_owner pc) (ap (role_at p) (sym same) ∙ executable_role (role_at p o) (role p o v.executes)) ∙ sym same
    go false e =
        let other : o ≡ pc → ⊥ = eqb-false o pc e in
        let j : ℕ = pc - (o + 1) in
        let whole : o + 1 + j ≡ pc = omega (arith, v.after) in
        let mine : j < owned p o = omega (arith, v.within) in
        ap (last_owner pc) (ap (role_at p) (sym whole) ∙ owned_role p o j v.executes (omega arith))
        ∙ all_at {P = Of o pc} j Instruction (omega (arith, owned_count p o v.executes)) (claims_of p o pc (word_at p o))

pub owner_of : (p : Proto) (pc : ℕ) → pc < length p.code → Owns p (last_owner pc (role_at p pc)) pc
owner_of p pc h =
    let v = has_owner p pc h in
    subst (λ (o : ℕ). Owns p o pc) (sym (owner_is p v.owner_pc pc h v.owns)) v.owns
