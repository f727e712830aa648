-- The programs that the workloads run.
use Rattle.std.specs.Prelude.{ℕ, List, ◌++◌, codes}

-- a list with each element times ten
unfoldable pub map_program : List ℕ
map_program =
    codes "struct cell { int head; mod struct cell tail; };\n"
    ++ codes "init mk(struct cell *self, struct cell *from) { self->head = from->head * 10; }\n"
    ++ codes "ceal map(mod struct cell *from, mod struct cell *to) {\n"
    ++ codes "  struct cell *c = read(from);\n"
    ++ codes "  if (c != null) {\n"
    ++ codes "    struct cell *d = alloc cell mk(c);\n"
    ++ codes "    write(to, d);\n"
    ++ codes "    map(&c->tail, &d->tail);\n"
    ++ codes "  } else {\n"
    ++ codes "    write(to, null);\n"
    ++ codes "  }\n"
    ++ codes "}\n"

-- the value of a tree of operators
unfoldable pub eval_program : List ℕ
eval_program =
    codes "struct node { int op; mod int leaf; mod struct node left; mod struct node right; };\n"
    ++ codes "ceal eval(mod struct node *root, mod int *res) {\n"
    ++ codes "  struct node *t = read(root);\n"
    ++ codes "  if (t == null) { write(res, 0); return; }\n"
    ++ codes "  if (t->op == 0) {\n"
    ++ codes "    int v = read(&t->leaf);\n"
    ++ codes "    write(res, v);\n"
    ++ codes "    return;\n"
    ++ codes "  }\n"
    ++ codes "  mod int *a = modref int();\n"
    ++ codes "  mod int *b = modref int();\n"
    ++ codes "  eval(&t->left, a);\n"
    ++ codes "  eval(&t->right, b);\n"
    ++ codes "  int x = read(a);\n"
    ++ codes "  int y = read(b);\n"
    ++ codes "  int r = 0;\n"
    ++ codes "  if (t->op == 1) { r = x + y; }\n"
    ++ codes "  else if (t->op == 2) { r = x - y; }\n"
    ++ codes "  else if (t->op == 3) { r = x * y; }\n"
    ++ codes "  else if (t->op == 4) { r = x / y; }\n"
    ++ codes "  else { r = x % y; }\n"
    ++ codes "  write(res, r);\n"
    ++ codes "}\n"
