-- `message::hypers_in` meets its contract, kind of row by kind of row.
use Prim.Native.Nat.{◌/◌}
use mathlib.Core.Path.{sym, subst, ap, ◌∙◌}
use Rattle.syntax.specs.declared.Row.{Row}
use Rattle.syntax.specs.declared.Row.TheVariants.{Next}
use Rattle.syntax.specs.declared.Quantifier.{Quantifier}
use Rattle.build.specs.Told.{ToldHypers}
use Rattle.build.proofs.Told.{and_told, or_told, some_told, every_told, other_told}
use Rattle.build.proofs.message.hypers_in.Goals as goal

pub returns-in-And : goal.returns-in-And
returns-in-And c =
    let a = c.args in
    subst (λ (row : Row). ToldHypers row a.n a.bytes a.n) (sym c.in-And.is) (and_told a.n a.bytes c.in-And.field-0 c.in-And.field-1)

pub returns-in-Or : goal.returns-in-Or
returns-in-Or c =
    let a = c.args in
    subst (λ (row : Row). ToldHypers row a.n a.bytes (a.bytes / 10)) (sym c.in-Or.is) (or_told a.n a.bytes c.in-Or.field-0 c.in-Or.field-1)

pub returns-in-Some : goal.returns-in-Some
returns-in-Some c =
    let a = c.args in
    let is = c.in-Next.is ∙ ap (λ (q : Quantifier). Next q c.in-Next.field-1 c.in-Next.field-2 c.in-Next.field-3) c.in-Some.is in
    subst (λ (row : Row). ToldHypers row a.n a.bytes (a.bytes / 10)) (sym is) (some_told a.n a.bytes c.in-Next.field-1 c.in-Next.field-2 c.in-Next.field-3)

pub returns-in-Every : goal.returns-in-Every
returns-in-Every c =
    let a = c.args in
    let is = c.in-Next.is ∙ ap (λ (q : Quantifier). Next q c.in-Next.field-1 c.in-Next.field-2 c.in-Next.field-3) c.in-Every.is in
    subst (λ (row : Row). ToldHypers row a.n a.bytes a.n) (sym is) (every_told a.n a.bytes c.in-Next.field-1 c.in-Next.field-2 c.in-Next.field-3)

pub returns-in_default : goal.returns-in_default
returns-in_default c = let a = c.args in other_told a.n a.bytes a.row c.in_default.not-And c.in_default.not-Or c.in_default.not-Next
