-- Two fitting trees with the same tokens are one tree: no more than the places of their boxes may differ.
use Rattle.std.proofs.Common.{◌≡◌, map, ap, sym, ◌∙◌, append-nil}
use Rattle.c_tree.specs.declared.units.Unit.{Unit as Program}
use Rattle.c_tree.specs.Tokens.{tokens_of}
use Rattle.c_tree.specs.Fits.{Fits}
use Rattle.c_tree.specs.Plain.{plain_item, plain}
use Rattle.c_parse.specs.Tree.{items, read, read_to_end}
use Rattle.c_parse.proofs.Programs.{items_go}

-- the tree is read from its tokens
pub tree_read : (u : Program) → Fits u → read (items (λ is. is)) (tokens_of u) ≡ plain u
unfolding read read_to_end
tree_read u f = (items_go 0 u.items f.grammar (λ is. is)).reads ∙ append-nil (map plain_item u.items)

pub one_tree : (u v : Program) → Fits u → Fits v → tokens_of u ≡ tokens_of v → plain u ≡ plain v
one_tree u v f g eq = sym (tree_read u f) ∙ ap (read (items (λ is. is))) eq ∙ tree_read v g
