use Rattle.font_cache.proofs.cache.FontCache.make.Given as goal

abbrev pub ghost-make : goal.ghost-make
ghost-make g a = g.part
