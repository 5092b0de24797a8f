-- What holds of each element of two lists holds of each of both in a row, and the other way round.
use Rattle.std.proofs.Common.{List, [], ◌∷◌, ◌++◌}
use Rattle.std.specs.List.{AllByRecursion}

pub AllByRecursion-append : {A : Type 0} (P : A → Type 0) (xs ys : List A) → AllByRecursion P xs → AllByRecursion P ys
    → AllByRecursion P (xs ++ ys)
AllByRecursion-append P [] ys h k = k
AllByRecursion-append P (x ∷ xs) ys h k = (h.0, AllByRecursion-append P xs ys h.1 k)

pub AllByRecursion-before : {A : Type 0} (P : A → Type 0) (xs ys : List A) → AllByRecursion P (xs ++ ys) → AllByRecursion P xs
AllByRecursion-before P [] ys h = tt
AllByRecursion-before P (x ∷ xs) ys h = (h.0, AllByRecursion-before P xs ys h.1)

pub AllByRecursion-after : {A : Type 0} (P : A → Type 0) (xs ys : List A) → AllByRecursion P (xs ++ ys) → AllByRecursion P ys
AllByRecursion-after P [] ys h = h
AllByRecursion-after P (x ∷ xs) ys h = AllByRecursion-after P xs ys h.1
