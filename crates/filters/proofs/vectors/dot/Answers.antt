use Rattle.motion.specs.Vectors.{dot}
use Rattle.filters.proofs.Exact.{value, fits, stored, times, plus, product}
use Rattle.filters.proofs.vectors.dot.Goals as goal

pub overflow_mul-result : goal.overflow_mul-result
overflow_mul-result c = fits (times (value c.requires.0.x tt) (value c.requires.1.x tt)) tt

pub overflow_mul-result-2 : goal.overflow_mul-result-2
overflow_mul-result-2 c = fits (times (value c.requires.0.y tt) (value c.requires.1.y tt)) tt

pub overflow_add-result : goal.overflow_add-result
overflow_add-result c = fits (plus (product c.requires.0.x c.requires.1.x tt tt tt) (product c.requires.0.y c.requires.1.y tt tt tt)) tt

pub overflow_mul-result-3 : goal.overflow_mul-result-3
overflow_mul-result-3 c = fits (times (value c.requires.0.z tt) (value c.requires.1.z tt)) tt

pub overflow_add-result-2 : goal.overflow_add-result-2
overflow_add-result-2 c =
    fits (plus (stored (plus (product c.requires.0.x c.requires.1.x tt tt tt) (product c.requires.0.y c.requires.1.y tt tt tt)) tt) (product c.requires.0.z c.requires.1.z tt tt tt)) tt

pub returns : goal.returns
unfolding dot
returns c =
    (stored (plus (stored (plus (product c.requires.0.x c.requires.1.x tt tt tt) (product c.requires.0.y c.requires.1.y tt tt tt)) tt) (product c.requires.0.z c.requires.1.z tt tt tt)) tt).same
