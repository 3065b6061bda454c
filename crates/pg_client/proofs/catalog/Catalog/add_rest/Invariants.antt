-- What a pass leaves.
use Rattle.std.proofs.Common.{◌≡◌, ◌<◌, ◌⊎◌, ℕ, length}
use Rattle.std.specs.List.{Contains}
use Rattle.pg_client.specs.CatalogTypes.{refused_of, table_of}
use Rattle.pg_client.specs.WholeCatalogs.{Ascend, Grows, IsMadeAt}
use Rattle.pg_client.proofs.catalog.Catalog.add_rest.Given as goal

-- each row is made or waits
abbrev pub invariant-loop-waiting : goal.invariant-loop-waiting
invariant-loop-waiting l = record {
  grows : Grows l.rows (table_of l.initial.self) (table_of l.self);
  all : (place : ℕ) → place < length l.rows → IsMadeAt (table_of l.self) l.rows place ⊎ Contains l.waiting.items place;
  order : Ascend l.waiting.items;
  refused : refused_of l.self ≡ refused_of l.initial.self;
}

-- fewer wait
abbrev pub decreases-loop-waiting : goal.decreases-loop-waiting
decreases-loop-waiting l = length l.waiting.items
