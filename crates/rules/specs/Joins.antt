-- A rule of either of two answers as that rule does. Assumes nothing.
use Rattle.interface.specs.Rules.{RuleModel}
use Rattle.rules.specs.declared.joined.Joined.{Joined}
use Rattle.rules.specs.declared.joined.Joined.TheVariants.{First, Second}

-- f of a first, g of a second
abbrev pub either : {A B C : Type 0} → (A → C) → (B → C) → Joined A B → C
either f g (First a) = f a
either f g (Second b) = g b

-- a first, of which P holds
abbrev pub IsFirst : {A B : Type 0} → (A → Type 0) → Joined A B → Type 0
IsFirst P (First a) = P a
IsFirst P (Second b) = ⊥

-- every answer is that of the rule inside
abbrev pub joined : {A B : Type 0} → RuleModel A → RuleModel B → RuleModel (Joined A B)
joined K M = record {
  check = λ n. either (K.check n) (M.check n);
  meets = λ n. either (K.meets n) (M.meets n);
  judge = either K.judge M.judge;
  standing = λ n. either (K.standing n) (M.standing n);
  proposed = either K.proposed M.proposed;
}
