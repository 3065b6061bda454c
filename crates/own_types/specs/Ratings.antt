-- Ratings: a number of stars, or no rating.
use Rattle.postgres_types.specs.Conversion.{ℤ, Option, Some, None}
use Rattle.own_types.specs.declared.null_value.Rating.{Rating}
use Rattle.own_types.specs.declared.null_value.Rating.TheVariants.{Unrated, Stars}

-- the number of stars, if there is a rating
abbrev pub stars : Rating → Option ℤ
stars Unrated = None
stars (Stars n) = Some n
