-- Cases of a computed value, with the equation.
use Rattle.std.proofs.Common.{◌≡◌, Bool, true, false, Some, None, Option, refl}

pub by_option : {A : Type 0} (P : Option A → Type 0) (o : Option A) → (o ≡ None → P None) → ((x : A) → o ≡ Some x → P (Some x)) → P o
by_option P None f g = f refl
by_option P (Some x) f g = g x refl

pub by_test : (P : Bool → Type 0) (b : Bool) → (b ≡ true → P true) → (b ≡ false → P false) → P b
by_test P true f g = f refl
by_test P false f g = g refl
