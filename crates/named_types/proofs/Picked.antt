-- What a form picks.
use Rattle.std.proofs.Common.{◌≡◌, ◌∙◌, Option, option_map, ap, refl, sym}
use Rattle.named_types.specs.Names.{picked}
use Rattle.named_types.specs.declared.name.Form.{Form}
use Rattle.named_types.specs.declared.name.Form.TheVariants.{Plain, Optional, Array, OptionalArray}

-- of the images the image is picked
pub picked_map : {A B : Type 0} (f : A → B) (form : Form) (own : A) (arrays : Option A)
    → picked form (f own) (option_map f arrays) ≡ option_map f (picked form own arrays)
picked_map f Plain own arrays = refl
picked_map f Optional own arrays = refl
picked_map f Array own arrays = refl
picked_map f OptionalArray own arrays = refl

-- of what was picked the image is picked of the images
pub map_picked : {A B : Type 0} (f : A → B) (form : Form) (own : A) (arrays picks : Option A)
    → picks ≡ picked form own arrays → option_map f picks ≡ picked form (f own) (option_map f arrays)
map_picked f form own arrays picks is = ap (option_map f) is ∙ sym (picked_map f form own arrays)
